use Rattle.std.proofs.Common.{◌∙◌, ◌++◌, length, length-append, string_bytes, Some, None, ap, sym, arith, rules}
use Rattle.std.proofs.lemmas.Str.Pattern.{split_parts}
use Rattle.stage_options.specs.Values.{numbered}
use Rattle.stage_options.proofs.Marks.{numbered_step, numbered_none}
use Rattle.stage_options.proofs.file_names.numbered.Goals as goal

pub loop-front-smaller : goal.loop-front-smaller
loop-front-smaller c =
    let parts = split_parts 35 c.loop-front.rest.now (Some (c.in-Some.front, c.in-Some.back)) c.in-Some.ensures.cases (omega arith) in
    let sizes = simp length-append at (ap length parts.0) in
    omega (arith, sizes)

pub loop-front-preserved : goal.loop-front-preserved
loop-front-preserved c =
    let parts = split_parts 35 c.loop-front.rest.now (Some (c.in-Some.front, c.in-Some.back)) c.in-Some.ensures.cases (omega arith) in
    record {
      same = numbered_step c.args.view_number _ _ c.in-Some.front.now c.in-Some.back.now _ _ _ c.loop-front.invariant.same parts.0 parts.1
          c.in_ok-push_str.ensures.bytes (c.in_ok-push_str-2.ensures.bytes ∙ ap (λ t. string_bytes c.push_str.new.self ++ t) c.format-digits.ensures.text);
      is_text = search rules;
    }

pub returns : goal.returns
returns c =
    let none = split_parts 35 c.loop-front.rest.now None c.in_default.ensures.cases (omega arith) in
    c.in_ok-push_str-3.ensures.bytes ∙ (ap (λ t. string_bytes c.loop-front.text ++ t) (sym (numbered_none c.args.view_number c.loop-front.rest.now none)) ∙ c.loop-front.invariant.same)
