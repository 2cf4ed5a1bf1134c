-- What a sink holds of the text of points.
use Rattle.std.proofs.Common.{◌≡◌, ℕ, List, [], ◌++◌, Option, Some, None, option_map, true, refl, sym, ap, ◌∙◌, append_assoc, append-nil}
use Rattle.std.specs.List.{flat_map}
use Rattle.std.proofs.lemmas.Grind.{flat_map-append}
use Rattle.std.proofs.lemmas.Slice.Eq.{bytes_eq-Decides}
use Rattle.cloud_points.specs.declared.point.Point.{Point}
use Rattle.file_devices.specs.Content.{Appends}
use Rattle.file_devices.specs.Told.{IsAsTold}
use Rattle.text_writer.specs.declared.form.TextForm.{TextForm}
use Rattle.text_writer.specs.TextOutput.{header_line, text_line, text_output, holds_text}

-- more points are more lines
pub text-append : (f : TextForm) (a b : List Point) → text_output f (a ++ b) ≡ text_output f a ++ flat_map (text_line f) b
text-append f a b = ap (λ z. header_line f ++ z) (flat_map-append (text_line f) a b) ∙ sym (append_assoc (header_line f) (flat_map (text_line f) a) (flat_map (text_line f) b))

-- one that tells the text holds it
pub holds_told : (o : Option (List ℕ)) (f : TextForm) (ps : List Point) → IsAsTold o (Some (text_output f ps)) → holds_text o f ps ≡ true
holds_told None f ps h = refl
holds_told (Some bytes) f ps h = (bytes_eq-Decides bytes (text_output f ps)).1 (let e : Some (text_output f ps) ≡ Some bytes = h bytes refl in cc)

-- the lines of more points
pub holds_more : (old new : Option (List ℕ)) (f : TextForm) (before more : List Point) → Appends old (flat_map (text_line f) more) new → holds_text old f before ≡ true → holds_text new f (before ++ more) ≡ true
holds_more None new f before more appends h = holds_told new f (before ++ more) (λ x e. let none : None ≡ Some x = appends x e in cc)
holds_more (Some bytes) new f before more appends h =
    let was : bytes ≡ text_output f before = (bytes_eq-Decides bytes (text_output f before)).0 h in
    holds_told new f (before ++ more) (λ x e. ap (λ z. Some z) (text-append f before more ∙ ap (λ z. z ++ flat_map (text_line f) more) (sym was)) ∙ appends x e)

-- the header line alone is the text of no points
pub held_first : (old new : Option (List ℕ)) (f : TextForm) → IsAsTold old (Some []) → Appends old (header_line f) new → holds_text new f [] ≡ true
held_first None new f told appends = holds_told new f [] (λ x e. let none : None ≡ Some x = appends x e in cc)
held_first (Some b) new f told appends =
    holds_told new f [] (λ x e. ap (λ z. Some z) (append-nil (header_line f)) ∙ ap (option_map (λ z. z ++ header_line f)) (told b refl) ∙ appends x e)

-- told bytes that hold the text are the text
pub held_bytes : (b : List ℕ) (f : TextForm) (ps : List Point) → holds_text (Some b) f ps ≡ true → b ≡ text_output f ps
held_bytes b f ps h = (bytes_eq-Decides b (text_output f ps)).0 h

pub held_grow : (b c : List ℕ) (f : TextForm) (ps more : List Point) → holds_text (Some b) f ps ≡ true → holds_text (Some c) f (ps ++ more) ≡ true → c ≡ b ++ flat_map (text_line f) more
held_grow b c f ps more was is =
    held_bytes c f (ps ++ more) is ∙ text-append f ps more ∙ ap (λ z. z ++ flat_map (text_line f) more) (sym (held_bytes b f ps was))
