-- The files of readers, in the order in which they stand below a stage.
use Rattle.std.proofs.Common.{◌≡◌, ℕ, List, [], ◌∷◌, ◌++◌, slice_get, Some, None, ap, ◌∙◌}
use Rattle.std.specs.Prelude.{slice_index_or, Option}
use Rattle.std.proofs.lemmas.Grind.{flat_map-append}
use Rattle.std.proofs.lemmas.List.{append-nil}
use Rattle.std.proofs.lemmas.Option.{get_or_from_slice_get}
use Rattle.forward_rules.specs.Forwarded.{ReadFile}
use Rattle.las_reader.specs.declared.reader.LasReader.{LasReader}
use Rattle.las_writer.specs.Laws.{AreGoodReads}
use Rattle.stage_forms.specs.Below.{read_of, read_in, reads_in}

module _ {S : Type 0} (readers : List (Option (LasReader S))) where
  pub reads-append : (xs ys : List ℕ) → reads_in readers (xs ++ ys) ≡ reads_in readers xs ++ reads_in readers ys
  reads-append xs ys = flat_map-append (λ j. read_in (slice_index_or readers j None)) xs ys

  -- the file at one place
  pub read-one : (j : ℕ) (o : Option (LasReader S)) → slice_get readers j ≡ Some o → reads_in readers (j ∷ []) ≡ read_in o ++ []
  read-one j o e = ap (λ p. read_in p ++ []) (get_or_from_slice_get readers j o None e)

  -- a place with a reader, and one without
  pub reads-more : (js : List ℕ) (j : ℕ) (r : LasReader S) → slice_get readers j ≡ Some (Some r) → reads_in readers (js ++ j ∷ []) ≡ reads_in readers js ++ read_of r ∷ []
  reads-more js j r e = reads-append js (j ∷ []) ∙ ap (λ more. reads_in readers js ++ more) (read-one j (Some r) e)

  pub reads-same : (js : List ℕ) (j : ℕ) → slice_get readers j ≡ Some None → reads_in readers (js ++ j ∷ []) ≡ reads_in readers js
  reads-same js j e = reads-append js (j ∷ []) ∙ ap (λ more. reads_in readers js ++ more) (read-one j None e) ∙ append-nil (reads_in readers js)

  good-read : (o : Option (LasReader S)) (reads : List ReadFile) → AreGoodReads reads → AreGoodReads (read_in o ++ reads)
  good-read None reads are = are
  good-read (Some r) reads are = (record { offsets = r.sound.offsets; vlrs = r.lists.vlrs_held; evlrs = r.lists.evlrs_held }, are)

  -- each of them was read without a fault
  pub good-reads : (js : List ℕ) → AreGoodReads (reads_in readers js)
  good-reads [] = tt
  good-reads (j ∷ js) = good-read (slice_index_or readers j None) (reads_in readers js) (good-reads js)
