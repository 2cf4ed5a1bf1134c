-- The text of groups of returns.
use Rattle.std.specs.Prelude.{ℕ, Bool, bytes_eq, List, [], ◌∷◌, codes, Option, Some, None, if◌then◌else◌}
use Rattle.std.specs.List.{list_all, list_any}
use Rattle.option_texts.specs.declared.groups.Groups.{Groups}
use Rattle.option_texts.specs.Parts.{trimmed, parts_of}

abbrev pub group_names : List (List ℕ)
group_names = codes "first" ∷ codes "last" ∷ codes "intermediate" ∷ codes "only" ∷ []

abbrev pub is_group : List ℕ → Bool
is_group name = list_any (bytes_eq name) group_names

-- whether a part of a text is this name
abbrev pub names_group : List ℕ → List ℕ → Bool
names_group text group = list_any (λ part. bytes_eq (trimmed part) group) (parts_of text)

-- each part is the name of a group
abbrev pub groups_of : List ℕ → Option Groups
groups_of text =
    if list_all (λ part. is_group (trimmed part)) (parts_of text)
    then Some (record {
      first = names_group text (codes "first");
      last = names_group text (codes "last");
      intermediate = names_group text (codes "intermediate");
      only = names_group text (codes "only");
    })
    else None
