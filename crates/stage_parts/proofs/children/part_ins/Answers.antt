use Rattle.std.proofs.Common.{◌≡◌, ℕ, ◌∙◌, ap, subst, map, ◌++◌, ◌∷◌, [], List, Vec, Global, arith}
use Rattle.std.specs.List.{range_with_len}
use Rattle.std.proofs.lemmas.List.{map-append}
use Rattle.stage_parts.specs.Parts.{part_children, strangers}
use Rattle.stage_parts.proofs.Pushed.{one_list_more, last_list_more}
use Rattle.stage_parts.proofs.children.part_ins.Goals as goal

-- the list of a vector pushed
pushed : (before after : List (Vec ℕ Global)) (list : Vec ℕ Global) → after ≡ before ++ list ∷ []
    → map (λ v. v.items) after ≡ map (λ v. v.items) before ++ list.items ∷ []
pushed before after list is = ap (map (λ v. v.items)) is ∙ map-append (λ (v : Vec ℕ Global). v.items) before (list ∷ [])

pub loop-node-preserved : goal.loop-node-preserved
loop-node-preserved c =
    pushed c.loop-node.lists.items c.push.new.self.items c.in_ok-from_slice.field-0 c.in_ok-push.ensures.items
    ∙ one_list_more c.args.gathers.now c.args.ins.now c.args.homes.now c.args.home c.args.root c.loop-node.node _ c.in_ok-from_slice.field-0.items
    c.loop-node-test.true (c.in_ok-from_slice.ensures.items ∙ c.inner_children-own.ensures) c.loop-node.invariant

pub returns : goal.returns
returns c =
    let all : c.loop-node.node ≡ c.args.root = (let a = c.loop-node.auto.node-end in let t = c.loop-node-test.false in omega arith) in
    c.new.ensures
    ∙ pushed c.loop-node.lists.items c.push-2.new.self.items c.in_ok-root_children.field-0 c.in_ok-push-2.ensures.items
    ∙ last_list_more c.args.gathers.now c.args.ins.now c.args.homes.now c.args.home c.args.root _ c.in_ok-root_children.field-0.items
    (c.in_ok-root_children.ensures ∙ ap (λ xs. xs ++ strangers c.args.homes.now c.args.home c.args.root) c.children.ensures)
    (subst (λ z. map (λ (v : Vec ℕ Global). v.items) c.loop-node.lists.items ≡ map (part_children c.args.gathers.now c.args.ins.now c.args.homes.now c.args.home c.args.root) (range_with_len 0 z)) all c.loop-node.invariant)
