-- What is kept after each file.
use Rattle.std.proofs.Common.{◌≡◌, ℕ, Bool, true, false, List, [], ◌∷◌, ◌++◌, map, Option, Some, None, if◌then◌else◌, refl, sym, ap, ◌∙◌}
use Rattle.std.specs.Prelude.{◌&&◌, ◌==◌, option_map}
use Rattle.std.specs.List.{list_all}
use Rattle.std.specs.Ordering.{int_eq}
use Rattle.std.specs.Str.{bytes_eq}
use Rattle.std.proofs.lemmas.List.{map-append}
use Rattle.std.proofs.lemmas.List.Folds.{list_all-append}
use Rattle.las_vlr.specs.declared.entry.Vlr.{Vlr}
use Rattle.forward_rules.specs.declared.fields.Fields.{Fields}
use Rattle.forward_rules.specs.declared.forwarding.Forwarding.{Forwarding}
use Rattle.forward_rules.specs.declared.options.LasOpts.{LasOpts}
use Rattle.forward_rules.specs.Asked.{asked}
use Rattle.las_vlr.specs.Same.{same_list}
use Rattle.forward_rules.specs.Lists.{without_extra_bytes}
use Rattle.forward_rules.specs.Values.{filled, default_values, format_in, scale_on, offset_on, same_format, same_scale}
use Rattle.forward_rules.specs.Forwarded.{ReadFile, decided, flag_on, given_on, given_or, same_lists, form_of}
use Rattle.forward_rules.specs.States.{agreeing, all_have, scale_goes, offset_goes, goes_over, forwarding_of, given_of, picked, picked_form, kept, started, agreed}

together : (a b c : Bool) → ((a && b) && c) ≡ (a && (b && (c && true)))
together true true true = refl
together true true false = refl
together true false c = refl
together false b c = refl

-- one more file has what the first one has, or hasn't
have_more : {A : Type 0} (same : A → A → Bool) (get : ReadFile → A) (is_asked : Bool) (r : ReadFile) (rest : List ReadFile) (q : ReadFile) → (all_have same get is_asked r rest && same (get r) (get q)) ≡ all_have same get is_asked r (rest ++ q ∷ [])
have_more same get is_asked r rest q =
    together is_asked (list_all (same (get r)) (map get rest)) (same (get r) (get q))
    ∙ ap (λ b. is_asked && b) (sym (list_all-append (same (get r)) (map get rest) (get q ∷ [])))
    ∙ ap (λ l. is_asked && list_all (same (get r)) l) (sym (map-append get rest (q ∷ [])))

-- the lists that are kept are those of the first file, where they are asked for
lists_more : (is_asked : Bool) (r : ReadFile) (rest : List ReadFile) (q : ReadFile) → (all_have same_lists (λ x. (x.vlrs, x.evlrs)) is_asked r rest && (same_list (if is_asked then r.vlrs else []) q.vlrs && same_list (if is_asked then r.evlrs else []) q.evlrs))
    ≡ all_have same_lists (λ x. (x.vlrs, x.evlrs)) is_asked r (rest ++ q ∷ [])
lists_more true r rest q = have_more same_lists (λ x. (x.vlrs, x.evlrs)) true r rest q
lists_more false r rest q = refl

goes_more : (asked : Fields) (r : ReadFile) (rest : List ReadFile) (q : ReadFile)
    → agreeing (goes_over asked (r ∷ rest)) r.values q.values (all_have same_lists (λ x. (x.vlrs, x.evlrs)) asked.lists r rest && (same_list (if asked.lists then r.vlrs else []) q.vlrs && same_list (if asked.lists then r.evlrs else []) q.evlrs))
    ≡ goes_over asked (r ∷ rest ++ q ∷ [])
unfolding agreeing goes_over
goes_more asked r rest q = λ i. record {
  format = have_more same_format (λ x. x.values.format) asked.format r rest q i;
  scale = scale 0 i ∷ scale 1 i ∷ scale 2 i ∷ [];
  offset = offset 0 i ∷ offset 1 i ∷ offset 2 i ∷ [];
  source_id = have_more (λ a b. a == b) (λ x. x.values.source_id) asked.source_id r rest q i;
  encoding = have_more (λ a b. a == b) (λ x. x.values.encoding) asked.encoding r rest q i;
  guid = have_more bytes_eq (λ x. x.values.guid) asked.guid r rest q i;
  system = have_more bytes_eq (λ x. x.values.system) asked.system r rest q i;
  software = have_more bytes_eq (λ x. x.values.software) asked.software r rest q i;
  day = have_more (λ a b. a == b) (λ x. x.values.day) asked.day r rest q i;
  year = have_more (λ a b. a == b) (λ x. x.values.year) asked.year r rest q i;
  lists = lists_more asked.lists r rest q i;
}
  where
    scale : (axis : ℕ) → (scale_goes asked r rest axis && same_scale (scale_on r.values.scale axis) (scale_on q.values.scale axis)) ≡ scale_goes asked r (rest ++ q ∷ []) axis
    scale axis = have_more same_scale (λ x. scale_on x.values.scale axis) (flag_on asked.scale axis) r rest q

    offset : (axis : ℕ) → (offset_goes asked r rest axis && int_eq (offset_on r.values.offset axis) (offset_on q.values.offset axis)) ≡ offset_goes asked r (rest ++ q ∷ []) axis
    offset axis = have_more int_eq (λ x. offset_on x.values.offset axis) (flag_on asked.offset axis) r rest q

and_yes : (b : Bool) → b ≡ (b && true)
and_yes true = refl
and_yes false = refl

-- all that is asked for goes over from one file
goes_first : (names : List (List ℕ)) (r : ReadFile) → asked names ≡ goes_over (asked names) (r ∷ [])
unfolding goes_over asked
goes_first names r = let a = asked names in λ i. record {
  format = and_yes a.format i;
  scale = and_yes (flag_on a.scale 0) i ∷ and_yes (flag_on a.scale 1) i ∷ and_yes (flag_on a.scale 2) i ∷ [];
  offset = and_yes (flag_on a.offset 0) i ∷ and_yes (flag_on a.offset 1) i ∷ and_yes (flag_on a.offset 2) i ∷ [];
  source_id = and_yes a.source_id i;
  encoding = and_yes a.encoding i;
  guid = and_yes a.guid i;
  system = and_yes a.system i;
  software = and_yes a.software i;
  day = and_yes a.day i;
  year = and_yes a.year i;
  lists = and_yes a.lists i;
}

-- what is kept of no files
pub begun_is : (opts : LasOpts) (f : Forwarding) → f.given ≡ given_of opts → f.goes ≡ asked opts.forward → f.begun ≡ false → f.first ≡ default_values → f.vlrs ≡ [] → f.evlrs ≡ [] → f ≡ forwarding_of opts []
unfolding forwarding_of goes_over
begun_is opts f given goes begun first vlrs evlrs = λ i. record { given = given i; goes = goes i; begun = begun i; first = first i; vlrs = vlrs i; evlrs = evlrs i }

-- after the first file
started_first : (opts : LasOpts) (r : ReadFile) → started (forwarding_of opts []) r ≡ forwarding_of opts (r ∷ [])
unfolding forwarding_of goes_over
started_first opts r = let a = asked opts.forward in λ i. record {
  given = given_of opts;
  goes = goes_first opts.forward r i;
  begun = true;
  first = r.values;
  vlrs = (if a.lists then r.vlrs else []);
  evlrs = (if a.lists then r.evlrs else []);
}

begun_before : (opts : LasOpts) (x : ReadFile) (rest : List ReadFile) (f : Forwarding) → f ≡ forwarding_of opts (x ∷ rest) → f.begun ≡ true
unfolding forwarding_of
begun_before opts x rest f e = ap (λ g. g.begun) e

pub started_is : (opts : LasOpts) (reads : List ReadFile) (r : ReadFile) (f : Forwarding) → f.begun ≡ false → f ≡ forwarding_of opts reads → started f r ≡ forwarding_of opts (reads ++ r ∷ [])
started_is opts [] r f begun e = ap (λ g. started g r) e ∙ started_first opts r
started_is opts (x ∷ rest) r f begun e = let true_too : f.begun ≡ true = begun_before opts x rest f e in absurd (cc)

lists_are : (a : Fields) (r : ReadFile) (rest : List ReadFile) (q : ReadFile) → agreeing (goes_over a (r ∷ rest)) r.values q.values ((goes_over a (r ∷ rest)).lists && (same_list (if a.lists then r.vlrs else []) q.vlrs && same_list (if a.lists then r.evlrs else []) q.evlrs))
    ≡ agreeing (goes_over a (r ∷ rest)) r.values q.values (all_have same_lists (λ x. (x.vlrs, x.evlrs)) a.lists r rest && (same_list (if a.lists then r.vlrs else []) q.vlrs && same_list (if a.lists then r.evlrs else []) q.evlrs))
unfolding goes_over
lists_are a r rest q = refl

-- after a further one
agreed_next : (opts : LasOpts) (r : ReadFile) (rest : List ReadFile) (q : ReadFile) → agreed (forwarding_of opts (r ∷ rest)) q ≡ forwarding_of opts (r ∷ rest ++ q ∷ [])
unfolding forwarding_of
agreed_next opts r rest q = let a = asked opts.forward in λ i. record {
  given = given_of opts;
  goes = (lists_are a r rest q ∙ goes_more a r rest q) i;
  begun = true;
  first = r.values;
  vlrs = (if a.lists then r.vlrs else []);
  evlrs = (if a.lists then r.evlrs else []);
}

not_begun : (opts : LasOpts) (f : Forwarding) → f ≡ forwarding_of opts [] → f.begun ≡ false
unfolding forwarding_of
not_begun opts f e = ap (λ g. g.begun) e

pub agreed_is : (opts : LasOpts) (reads : List ReadFile) (q : ReadFile) (f : Forwarding) → f.begun ≡ true → f ≡ forwarding_of opts reads → agreed f q ≡ forwarding_of opts (reads ++ q ∷ [])
agreed_is opts [] q f begun e = let none = not_begun opts f e in absurd (cc)
agreed_is opts (r ∷ rest) q f begun e = ap (λ g. agreed g q) e ∙ agreed_next opts r rest q

either_way : {A : Type 0} (b : Bool) (x : A) → (if b then x else x) ≡ x
either_way true x = refl
either_way false x = refl

picked_none : {A : Type 0} (same : A → A → Bool) (given : Option A) (is_asked : Bool) (default : A) → picked given is_asked default default ≡ decided same given is_asked [] default
picked_none same (Some v) is_asked default = refl
picked_none same None is_asked default = either_way is_asked default

picked_first : {A : Type 0} (same : A → A → Bool) (get : ReadFile → A) (given : Option A) (is_asked : Bool) (r : ReadFile) (rest : List ReadFile) (default : A) → picked given (all_have same get is_asked r rest) (get r) default ≡ decided same given is_asked (map get (r ∷ rest)) default
picked_first same get (Some v) is_asked r rest default = refl
picked_first same get None is_asked r rest default = refl

vlrs_first : (a b : Bool) (first : List Vlr × List Vlr) → kept (a && b) (if a then first.0 else []) ≡ (if a && b then first else ([], [])).0
vlrs_first true true first = refl
vlrs_first true false first = refl
vlrs_first false b first = refl

evlrs_first : (a b : Bool) (first : List Vlr × List Vlr) → kept (a && b) (if a then first.1 else []) ≡ (if a && b then first else ([], [])).1
evlrs_first true true first = refl
evlrs_first true false first = refl
evlrs_first false b first = refl

-- the form that is decided by what is kept is the one of these files
pub form_is : (opts : LasOpts) (reads : List ReadFile) → (let f = forwarding_of opts reads in picked_form f.given f.goes f.first (without_extra_bytes (kept f.goes.lists f.vlrs)) (kept f.goes.lists f.evlrs) []) ≡ form_of opts reads
unfolding forwarding_of goes_over picked_form form_of
form_is opts [] = let a = asked opts.forward in let d = default_values in λ i. record {
  format = format_in (given_or opts.minor 4) (picked_none same_format opts.format a.format d.format i);
  minor = given_or opts.minor 4;
  scale = scale a 0 i ∷ scale a 1 i ∷ scale a 2 i ∷ [];
  offset = offset a 0 i ∷ offset a 1 i ∷ offset a 2 i ∷ [];
  source_id = picked_none (λ x y. x == y) opts.source_id a.source_id d.source_id i;
  encoding = picked_none (λ x y. x == y) opts.encoding a.encoding d.encoding i;
  guid = picked_none bytes_eq None a.guid d.guid i;
  system = picked_none bytes_eq (option_map filled opts.system) a.system d.system i;
  software = picked_none bytes_eq (option_map filled opts.software) a.software d.software i;
  day = picked_none (λ x y. x == y) opts.day a.day d.day i;
  year = picked_none (λ x y. x == y) opts.year a.year d.year i;
  vlrs = without_extra_bytes (either_way a.lists [] i);
  evlrs = either_way a.lists [] i;
  extra = [];
}
  where
    scale : (a : Fields) (axis : ℕ) → picked (given_on opts.scale axis) (flag_on a.scale axis) (scale_on default_values.scale axis) (scale_on default_values.scale axis) ≡ decided same_scale (given_on opts.scale axis) (flag_on a.scale axis) [] (scale_on default_values.scale axis)
    scale a axis = picked_none same_scale (given_on opts.scale axis) (flag_on a.scale axis) (scale_on default_values.scale axis)

    offset : (a : Fields) (axis : ℕ) → picked (given_on opts.offset axis) (flag_on a.offset axis) (offset_on default_values.offset axis) (offset_on default_values.offset axis) ≡ decided int_eq (given_on opts.offset axis) (flag_on a.offset axis) [] (offset_on default_values.offset axis)
    offset a axis = picked_none int_eq (given_on opts.offset axis) (flag_on a.offset axis) (offset_on default_values.offset axis)
form_is opts (r ∷ rest) = let a = asked opts.forward in let d = default_values in λ i. record {
  format = format_in (given_or opts.minor 4) (picked_first same_format (λ x. x.values.format) opts.format a.format r rest d.format i);
  minor = given_or opts.minor 4;
  scale = scale a 0 i ∷ scale a 1 i ∷ scale a 2 i ∷ [];
  offset = offset a 0 i ∷ offset a 1 i ∷ offset a 2 i ∷ [];
  source_id = picked_first (λ x y. x == y) (λ x. x.values.source_id) opts.source_id a.source_id r rest d.source_id i;
  encoding = picked_first (λ x y. x == y) (λ x. x.values.encoding) opts.encoding a.encoding r rest d.encoding i;
  guid = picked_first bytes_eq (λ x. x.values.guid) None a.guid r rest d.guid i;
  system = picked_first bytes_eq (λ x. x.values.system) (option_map filled opts.system) a.system r rest d.system i;
  software = picked_first bytes_eq (λ x. x.values.software) (option_map filled opts.software) a.software r rest d.software i;
  day = picked_first (λ x y. x == y) (λ x. x.values.day) opts.day a.day r rest d.day i;
  year = picked_first (λ x y. x == y) (λ x. x.values.year) opts.year a.year r rest d.year i;
  vlrs = without_extra_bytes (vlrs_first a.lists (list_all (same_lists (r.vlrs, r.evlrs)) (map (λ x. (x.vlrs, x.evlrs)) rest)) (r.vlrs, r.evlrs) i);
  evlrs = evlrs_first a.lists (list_all (same_lists (r.vlrs, r.evlrs)) (map (λ x. (x.vlrs, x.evlrs)) rest)) (r.vlrs, r.evlrs) i;
  extra = [];
}
  where
    scale : (a : Fields) (axis : ℕ) → picked (given_on opts.scale axis) (scale_goes a r rest axis) (scale_on r.values.scale axis) (scale_on default_values.scale axis) ≡ decided same_scale (given_on opts.scale axis) (flag_on a.scale axis) (map (λ x. scale_on x.values.scale axis) (r ∷ rest)) (scale_on default_values.scale axis)
    scale a axis = picked_first same_scale (λ x. scale_on x.values.scale axis) (given_on opts.scale axis) (flag_on a.scale axis) r rest (scale_on default_values.scale axis)

    offset : (a : Fields) (axis : ℕ) → picked (given_on opts.offset axis) (offset_goes a r rest axis) (offset_on r.values.offset axis) (offset_on default_values.offset axis) ≡ decided int_eq (given_on opts.offset axis) (flag_on a.offset axis) (map (λ x. offset_on x.values.offset axis) (r ∷ rest)) (offset_on default_values.offset axis)
    offset a axis = picked_first int_eq (λ x. offset_on x.values.offset axis) (given_on opts.offset axis) (flag_on a.offset axis) r rest (offset_on default_values.offset axis)
