use Rattle.std.proofs.Common.{◌≡◌, [], ◌∷◌, ◌++◌, drop, length, replicate, refl, ap, ◌∙◌}
use Rattle.extra_bytes.specs.Written.{kind_number, scale_options, scale_part}
use Rattle.extra_bytes.proofs.Putting.{pieces_joined, filled}
use Rattle.extra_bytes.proofs.written.descriptor_of.Goals as goal

pub returns : goal.returns
returns c =
    let f = c.args.field.now in
    let p = c.put.new.part.items in
    let q = c.put-2.new.part.items in
    let head : p ≡ 0 ∷ 0 ∷ kind_number f.kind ∷ scale_options f.scale ∷ [] = rw (c.put.ensures.items, c.new-bytes.ensures, c.kind_number-kind.ensures, c.scale_options-options.ensures) refl in
    let name : q ≡ p ++ f.name = rw (c.put-2.ensures.items, c.as_bytes-name.ensures.value, c.as_str.ensures) refl in
    let filling : c.put-3.new.part.items ≡ q ++ drop (length f.name) (replicate 32 0) =
    rw (c.put-3.ensures.items, c.as_bytes-name.ensures.value, c.as_str.ensures) (ap (λ l. q ++ l) (filled (length f.name))) in
    let scale : c.put-5.new.part.items ≡ c.put-4.new.part.items ++ scale_part f.scale = rw (c.put-5.ensures.items, c.scale_part-scale.ensures) refl in
    pieces_joined p q c.put-3.new.part.items c.put-4.new.part.items c.put-5.new.part.items c.put-6.new.part.items
    f.name (drop (length f.name) (replicate 32 0)) (replicate 76 0) (scale_part f.scale) (replicate 72 0) name filling c.put-4.ensures.items scale c.put-6.ensures.items
    ∙ ap (λ l. l ++ (f.name ++ (drop (length f.name) (replicate 32 0) ++ (replicate 76 0 ++ (scale_part f.scale ++ replicate 72 0))))) head
