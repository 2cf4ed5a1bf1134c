-- The parts of the examples.
use Rattle.std.proofs.Common.{◌≡◌, ℕ, List, [], ◌∷◌, take, length, codes, Option, Some, None, Result, Ok, Err, IsOk, refl, pos, negsuc, ap, ◌∙◌}
use Rattle.std.specs.Fmt.{digits}
use Rattle.std.specs.Str.{is_utf8, chars}
use Rattle.std.specs.Float.Numeral.{scan_numeral}
use Rattle.std.proofs.Math.Utf8.{encode}
use Rattle.json.specs.Json.{value}
use Rattle.json.specs.Lex.{punctuate, lex}
use Rattle.json.specs.Text.{content}
use Rattle.json.specs.Word.{word, after_number}
use Rattle.serde_json.specs.Read.{number_of}
use Rattle.ieee_words.specs.DecimalOfWord.{decimal_of_word, scale_of_word}
use Rattle.las_header.specs.declared.form.Format.{Format}
use Rattle.las_header.specs.declared.form.Format.TheVariants.{F0, F6}
use Rattle.las_header.specs.declared.faults.HeaderAxis.TheVariants.{X}
use Rattle.las_header.specs.declared.faults.HeaderFault.TheVariants.{NotLas, VersionNotRead, HeaderSize, Compressed, FormatNotRead, ScaleNotDecimal}
use Rattle.las_header.specs.Headers.{block_of, record_format, scales_of, offsets_of, header_with, header_in}
use Rattle.las_vlr.specs.declared.entry.VlrFault.TheVariants.{TooManyVlrs, VlrPastPoints, EvlrPastEnd}
use Rattle.las_vlr.specs.Vlrs.{entries_from}
use Rattle.limits_text.specs.Texts.{ranges_of, ranges_in}
use Rattle.decimal_coords.specs.DecimalOfText.{decimal_of_text}
use Rattle.las_reader.specs.Frames.{LasFault, In_header, In_list}
use Rattle.cloud_points.specs.declared.faults.PointFault.TheVariants.{Cut}
use Rattle.cloud_points.specs.Points.{zero_point}
use Rattle.las_reader.specs.Files.{Las}
use Rattle.las_reader.specs.Records.{out_from, point_of, point_with, points_from}
use Rattle.cloud_points.specs.declared.extra.ExtraField.{ExtraField}
use Rattle.forward_rules.specs.Forwarded.{ReadFile}
use Rattle.file_devices.specs.Named.{Names}
use Rattle.file_devices.specs.declared.devices.Op.TheVariants.{Open}
use Rattle.plug_stages.specs.Handed.{none_handed}
use Rattle.run_report.specs.declared.refusal.Place.TheVariants.{Stage}
use Rattle.run_report.specs.declared.refusal.Refusal.{Refusal}
use Rattle.run_report.specs.declared.refusal.Refusal.TheVariants.{Device, Pipeline}
use Rattle.stage_names.specs.Kinds.{kind_named}
use Rattle.stage_names.specs.declared.faults.PipeFault.TheVariants.{Empty, NotJson, NotAPipeline, CannotInfer, NoInput, TagTwice, TagUnknown, UsedTwice, OptionValue, OptionUnknown, SameOutput}
use Rattle.stage_options.specs.declared.stage.StageSpec.{StageSpec}
use Rattle.answer_model.specs.Steps.{and_then}
use Rattle.stage_options.specs.Roles.{Role, Reads}
use Rattle.answer_model.specs.Steps.{why}
use Rattle.answer_model.specs.Values.{LasFile, role_at, or_later, least_from, evaluated}
use Rattle.answer_model.specs.Forms.{text_form}
use Rattle.answer_model.specs.Examples.{read, head, write}
use Rattle.answer_model.specs.Runs as runs
use Rattle.answer_model.specs.Runs.{Run, las_file_of, las_read, file_or, no_file, unless_unread, run_of, opened_in}
use Rattle.command_words.specs.Machine.{command_of}
use Rattle.command_words.specs.Options.{usual}
use Rattle.stage_planner.specs.Plans.{end_of, plan_of}
use Rattle.lasline_top.specs.Texts.{plan_text}
use Rattle.lasline_top.specs.Words.{Run_file, Plan_file, Make_file, engine_of, task_of}
use Rattle.lasline_top.specs.Answer.{named, stages_in, ran, printed, made, trial_text, done, answer}
use Rattle.worked_examples.specs.Rows.{run_p, files, files_with, pipeline_alone, pipeline_text, head_of_1, head_of_0, tagged_head, reader_alone, writer_between, file_a, file_of_1_1, file_of_1_2, file_of_1_2_in_format_6, file_of_format_6, file_of_a_vlr, file_of_many_vlrs, file_of_a_far_evlr, file_compressed, file_of_neighbour, file_far, file_with_x, file_without_points, first_point, none_pass, only_read, all_and_first, twice, second_absent, two_points_twice}

-- a reader, and stages behind the reader of the LAS file
abbrev from_las : List StageSpec → List StageSpec
from_las later = read (codes "in.las") ∷ later

-- a head, and a writer, behind the stage with this number
abbrev head_after : ℕ → ℕ → StageSpec
head_after i count = head count (i ∷ [])

abbrev writer_after : ℕ → List ℕ → StageSpec
writer_after i name = write name (i ∷ [])

-- what a file says of itself, with this format of its points
abbrev said_in : Format → ReadFile → ReadFile
said_in format said = record said { values = record said.values { format = format } }

-- ---- what the run of stages comes to whose readers all read this

abbrev unread_by : Result LasFile LasFault → ℕ → Role → Option Refusal
unread_by file i (Reads name) = why (las_read i file)
unread_by file i role = None

abbrev holds_by : Result LasFile LasFault → ℕ → Role → LasFile
holds_by file i (Reads name) = file_or (las_read i file)
holds_by file i role = no_file

abbrev pub run_by : Result LasFile LasFault → List StageSpec → Result Run Refusal
run_by file stages = unless_unread (least_from (λ i. unread_by file i (role_at stages i)) (length stages) 0) (runs.run_over stages (record { file = λ i. holds_by file i (role_at stages i); handed = none_handed }))

-- what a file holds, with the values of given fields
abbrev held_by : List ℕ → List ExtraField → Las
held_by bytes = (file_or (las_read 0 (las_file_of bytes))).las

-- what a file says of itself; a text writer asks for no more than the format of its points
abbrev read_of : List ℕ → Format → ReadFile
read_of bytes format = said_in format (file_or (las_read 0 (las_file_of bytes))).read

-- a file that says this of itself, and holds these points where it is read without extra dimensions
pub record IsRead (bytes : List ℕ) (said : ReadFile) (las : Las) : Type 0 where
  is : las_file_of bytes ≡ Ok (record { read = said; las = held_by bytes })
  plain : held_by bytes [] ≡ las

chain_is : stages_in pipeline_text ≡ Ok (from_las (writer_after 0 (codes "o.txt") ∷ []))
unfolding is_utf8 chars encode value punctuate lex content
chain_is = refl

one_is : stages_in head_of_1 ≡ Ok (from_las (head_after 0 1 ∷ writer_after 1 (codes "o.txt") ∷ []))
unfolding is_utf8 chars encode value punctuate lex content word after_number number_of scan_numeral kind_named
one_is = refl

zero_is : stages_in head_of_0 ≡ Ok (from_las (head_after 0 0 ∷ writer_after 1 (codes "o.txt") ∷ []))
unfolding is_utf8 chars encode value punctuate lex content word after_number number_of scan_numeral kind_named
zero_is = refl

tagged_is : stages_in tagged_head ≡ Ok (from_las (head_after 0 1 ∷ writer_after 1 (codes "o.txt") ∷ []))
unfolding is_utf8 chars encode value punctuate lex content word after_number number_of scan_numeral kind_named
tagged_is = refl

reader_is : stages_in reader_alone ≡ Ok (from_las [])
unfolding is_utf8 chars encode value punctuate lex content
reader_is = refl

between_is : stages_in writer_between ≡ Ok (from_las (writer_after 0 (codes "all.txt") ∷ head_after 1 1 ∷ writer_after 2 (codes "o.txt") ∷ []))
unfolding is_utf8 chars encode value punctuate lex content word after_number number_of scan_numeral kind_named
between_is = refl

pub empty_array : stages_in (codes "[]") ≡ Err (Pipeline Empty)
unfolding is_utf8 chars encode value punctuate lex content
empty_array = refl

pub no_json : stages_in (codes "[\"in.las\"") ≡ Err (Pipeline NotJson)
unfolding is_utf8 chars encode value punctuate lex content
no_json = refl

pub no_stages : stages_in (codes "{}") ≡ Err (Pipeline NotAPipeline)
unfolding is_utf8 chars encode value punctuate lex content
no_stages = refl

pub another_ending : stages_in (codes "[\"in.las\",\"o.laz\"]") ≡ Err (Pipeline (CannotInfer 1))
unfolding is_utf8 chars encode value punctuate lex content
another_ending = refl

pub a_head_first : stages_in (codes "[{\"type\":\"filters.head\"},\"in.las\",\"o.txt\"]") ≡ Err (Pipeline (NoInput 0))
unfolding is_utf8 chars encode value punctuate lex content kind_named
a_head_first = refl

pub a_tag_twice : stages_in (codes "[{\"filename\":\"in.las\",\"tag\":\"a\"},{\"type\":\"filters.head\",\"tag\":\"a\"},\"o.txt\"]") ≡ Err (Pipeline (TagTwice 1))
unfolding is_utf8 chars encode value punctuate lex content kind_named
a_tag_twice = refl

pub an_unknown_tag : stages_in (codes "[{\"filename\":\"in.las\",\"tag\":\"a\"},{\"filename\":\"o.txt\",\"inputs\":[\"b\"]}]") ≡ Err (Pipeline (TagUnknown 1))
unfolding is_utf8 chars encode value punctuate lex content
an_unknown_tag = refl

pub an_input_taken_twice : stages_in (codes "[{\"filename\":\"in.las\",\"tag\":\"a\"},{\"type\":\"filters.head\",\"inputs\":[\"a\"]},{\"filename\":\"o.txt\",\"inputs\":[\"a\"]}]") ≡ Err (Pipeline (UsedTwice 2))
unfolding is_utf8 chars encode value punctuate lex content kind_named
an_input_taken_twice = refl

pub two_number_signs : stages_in (codes "[\"in.las\",\"o##.txt\"]") ≡ Err (Pipeline (OptionValue 1 (codes "filename")))
unfolding is_utf8 chars encode value punctuate lex content
two_number_signs = refl

pub an_unknown_option : stages_in (codes "[\"in.las\",{\"type\":\"filters.head\",\"cuont\":1},\"o.txt\"]") ≡ Err (Pipeline (OptionUnknown 1 (codes "cuont")))
unfolding is_utf8 chars encode value punctuate lex content word after_number number_of scan_numeral kind_named
an_unknown_option = refl

pub a_count_too_large : stages_in (codes "[\"in.las\",{\"type\":\"filters.head\",\"count\":4294967296},\"o.txt\"]") ≡ Err (Pipeline (OptionValue 1 (codes "count")))
unfolding is_utf8 chars encode value punctuate lex content word after_number number_of scan_numeral kind_named
a_count_too_large = refl

pub two_writers_of_a_name : stages_in (codes "[\"in.las\",{\"type\":\"writers.text\",\"filename\":\"o.txt\"},\"o.txt\"]") ≡ Err (Pipeline (SameOutput 2))
unfolding is_utf8 chars encode value punctuate lex content kind_named
two_writers_of_a_name = refl

pub another_order : stages_in (codes "[\"in.las\",{\"type\":\"filters.sort\",\"dimension\":\"Z\",\"order\":\"up\"},\"o.txt\"]") ≡ Err (Pipeline (OptionValue 1 (codes "order")))
unfolding is_utf8 chars encode value punctuate lex content kind_named
another_order = refl

-- two readers and the writer that takes both
abbrev joining : List ℕ → List StageSpec
joining name = from_las (read name ∷ write (codes "o.txt") (0 ∷ 1 ∷ []) ∷ [])

twice_is : stages_in twice ≡ Ok (joining (codes "in.las"))
unfolding is_utf8 chars encode value punctuate lex content
twice_is = refl

absent_is : stages_in second_absent ≡ Ok (joining (codes "b.las"))
unfolding is_utf8 chars encode value punctuate lex content
absent_is = refl

pub two_read : IsRead (file_a) (read_of file_a F0) (record { points = record zero_point { x = pos 1000000000; y = pos 2000000000; z = pos 3000000000; return_number = 1; number_of_returns = 1; classification = 2 } ∷ record zero_point { x = negsuc 9999999; y = pos 0; z = pos 50000000; return_number = 1; number_of_returns = 1; classification = 2 } ∷ []; fault = None })
unfolding block_of header_in record_format scales_of offsets_of header_with scale_of_word decimal_of_word entries_from point_of point_with points_from out_from
two_read = record { is = refl; plain = refl }

pub none_read : IsRead (file_without_points) (read_of file_without_points F0) (record { points = []; fault = None })
unfolding block_of header_in record_format scales_of offsets_of header_with scale_of_word decimal_of_word entries_from point_of point_with points_from out_from
none_read = record { is = refl; plain = refl }

pub cut_at_1 : IsRead (take 414 file_a) (read_of (take 414 file_a) F0) (record { points = record zero_point { x = pos 1000000000; y = pos 2000000000; z = pos 3000000000; return_number = 1; number_of_returns = 1; classification = 2 } ∷ []; fault = Some (Cut 1) })
unfolding block_of header_in record_format scales_of offsets_of header_with scale_of_word decimal_of_word entries_from point_of point_with points_from out_from
cut_at_1 = record { is = refl; plain = refl }

pub cut_at_0 : IsRead (take 394 file_a) (read_of (take 394 file_a) F0) (record { points = []; fault = Some (Cut 0) })
unfolding block_of header_in record_format scales_of offsets_of header_with scale_of_word decimal_of_word entries_from point_of point_with points_from out_from
cut_at_0 = record { is = refl; plain = refl }

pub longer_read : IsRead (file_of_format_6) (read_of file_of_format_6 F6) (record { points = record zero_point { x = pos 1000000000; y = pos 2000000000; z = pos 3000000000 } ∷ record zero_point { x = negsuc 9999999; y = pos 0; z = pos 50000000 } ∷ []; fault = None })
unfolding block_of header_in record_format scales_of offsets_of header_with scale_of_word decimal_of_word entries_from point_of point_with points_from out_from
longer_read = record { is = refl; plain = refl }

pub older_read : IsRead (file_of_1_2) (read_of file_of_1_2 F0) (record { points = record zero_point { x = pos 1000000000; y = pos 2000000000; z = pos 3000000000; return_number = 1; number_of_returns = 1; classification = 2 } ∷ record zero_point { x = negsuc 9999999; y = pos 0; z = pos 50000000; return_number = 1; number_of_returns = 1; classification = 2 } ∷ []; fault = None })
unfolding block_of header_in record_format scales_of offsets_of header_with scale_of_word decimal_of_word entries_from point_of point_with points_from out_from
older_read = record { is = refl; plain = refl }

pub older_short : las_file_of (take 226 file_of_1_2) ≡ Err (In_header HeaderSize)
unfolding block_of header_in
older_short = refl

pub other_version : las_file_of file_of_1_1 ≡ Err (In_header VersionNotRead)
unfolding block_of header_in
other_version = refl

pub format_of_another : las_file_of file_of_1_2_in_format_6 ≡ Err (In_header FormatNotRead)
unfolding block_of header_in record_format
format_of_another = refl

pub vlr_past_points : las_file_of file_of_a_vlr ≡ Err (In_list (VlrPastPoints 0))
unfolding block_of header_in record_format scales_of offsets_of header_with scale_of_word decimal_of_word entries_from
vlr_past_points = refl

pub too_many_vlrs : las_file_of file_of_many_vlrs ≡ Err (In_list TooManyVlrs)
unfolding block_of header_in record_format scales_of offsets_of header_with scale_of_word decimal_of_word entries_from
too_many_vlrs = refl

pub evlr_past_end : las_file_of file_of_a_far_evlr ≡ Err (In_list (EvlrPastEnd 0))
unfolding block_of header_in record_format scales_of offsets_of header_with scale_of_word decimal_of_word entries_from
evlr_past_end = refl

pub compressed : las_file_of file_compressed ≡ Err (In_header Compressed)
unfolding block_of header_in record_format
compressed = refl

pub other_scale : las_file_of file_of_neighbour ≡ Err (In_header (ScaleNotDecimal X))
unfolding block_of header_in record_format scales_of scale_of_word
other_scale = refl

pub far_read : IsRead (file_far) (read_of file_far F0) (record { points = record zero_point { x = pos 3147483646000000000; y = pos 0; z = pos 0 } ∷ []; fault = None })
unfolding block_of header_in record_format scales_of offsets_of header_with scale_of_word decimal_of_word entries_from point_of point_with points_from out_from
far_read = record { is = refl; plain = refl }

pub short_header : las_file_of (take 374 file_a) ≡ Err (In_header HeaderSize)
unfolding block_of header_in
short_header = refl

pub other_signature : las_file_of file_with_x ≡ Err (In_header NotLas)
unfolding block_of header_in
other_signature = refl

pub short_signature : las_file_of (take 3 file_a) ≡ Err (In_header NotLas)
unfolding block_of header_in
short_signature = refl

pub no_bytes : las_file_of [] ≡ Err (In_header NotLas)
unfolding block_of header_in
no_bytes = refl

-- the words of the example ask for the run of its pipeline's file with the usual options
asked : task_of run_p ≡ Ok (Run_file (codes "p.json") (engine_of usual))
unfolding command_of
asked = refl

pub run_is : (m : Names) → answer none_handed run_p m ≡ ran none_handed m (codes "p.json")
run_is m = ap (λ task. and_then task (done none_handed m)) asked

-- the run of a pipeline over a LAS file
pub run_over : (pipeline las : List ℕ) {later : List StageSpec} {file : Result LasFile LasFault} → stages_in pipeline ≡ Ok (from_las later) → named none_handed (from_las later) ≡ Ok (from_las later) → las_file_of las ≡ file
    → run_of none_handed (files_with pipeline las) (from_las later) ≡ run_by (las_file_of las) (from_las later) → answer none_handed run_p (files_with pipeline las) ≡ run_by file (from_las later)
run_over pipeline las {later} plan names is same = run_is (files_with pipeline las) ∙ ap (λ stages. and_then (and_then stages (named none_handed)) (run_of none_handed (files_with pipeline las))) plan
    ∙ ap (λ stages. and_then stages (run_of none_handed (files_with pipeline las))) names
    ∙ same ∙ ap (λ r. run_by r (from_las later)) is

-- the run over a file that says this of itself, and holds these points
abbrev pub plain_run : ReadFile → Las → List StageSpec → Result Run Refusal
plain_run said las stages = run_by (Ok (record { read = said; las = λ fields. las })) stages

pub run_read : (pipeline las : List ℕ) {later : List StageSpec} {said : ReadFile} {points : Las} → stages_in pipeline ≡ Ok (from_las later) → named none_handed (from_las later) ≡ Ok (from_las later) → IsRead las said points
    → run_of none_handed (files_with pipeline las) (from_las later) ≡ run_by (las_file_of las) (from_las later)
    → ((held : List ExtraField → Las) → run_by (Ok (record { read = said; las = held })) (from_las later) ≡ plain_run said (held []) (from_las later))
    → answer none_handed run_p (files_with pipeline las) ≡ plain_run said points (from_las later)
run_read pipeline las {later} {said} plan names known same plainly = run_over pipeline las plan names known.is same ∙ plainly (held_by las) ∙ ap (λ l. plain_run said l (from_las later)) known.plain

-- the run of the example's pipeline
pub run_whole : (las : List ℕ) {file : Result LasFile LasFault} → las_file_of las ≡ file → answer none_handed run_p (files las) ≡ run_by file (from_las (writer_after 0 (codes "o.txt") ∷ []))
unfolding evaluated
run_whole las is = run_over _ las chain_is refl is refl

pub read_whole : (las : List ℕ) {said : ReadFile} {points : Las} → IsRead las said points → answer none_handed run_p (files las) ≡ plain_run said points (from_las (writer_after 0 (codes "o.txt") ∷ []))
unfolding evaluated
read_whole las known = run_read _ las chain_is refl known refl (λ held. refl)

-- a pipeline that is refused
pub refused : (pipeline : List ℕ) {refusal : Refusal} → stages_in pipeline ≡ Err refusal → answer none_handed run_p (files_with pipeline file_a) ≡ Err refusal
refused pipeline plan = run_is (files_with pipeline file_a) ∙ ap (λ stages. and_then (and_then stages (named none_handed)) (run_of none_handed (files_with pipeline file_a))) plan

pub one_passes : answer none_handed run_p (files_with head_of_1 file_a) ≡ Ok first_point
unfolding digits text_form evaluated
one_passes = run_read _ _ one_is refl two_read refl (λ held. refl)

pub no_point_passes : answer none_handed run_p (files_with head_of_0 file_a) ≡ Ok none_pass
unfolding digits text_form evaluated
no_point_passes = run_read _ _ zero_is refl two_read refl (λ held. refl)

pub tagged_passes : answer none_handed run_p (files_with tagged_head file_a) ≡ Ok first_point
unfolding digits text_form evaluated
tagged_passes = run_read _ _ tagged_is refl two_read refl (λ held. refl)

pub reader_reads : answer none_handed run_p (files_with reader_alone file_a) ≡ Ok only_read
unfolding digits text_form evaluated
reader_reads = run_read _ _ reader_is refl two_read refl (λ held. refl)

pub both_write : answer none_handed run_p (files_with writer_between file_a) ≡ Ok all_and_first
unfolding digits text_form evaluated
both_write = run_read _ _ between_is refl two_read refl (λ held. refl)

-- the pipeline's file is there, and its LAS file isn't
pub absent_las : answer none_handed run_p pipeline_alone ≡ Err (Device (Stage 0) Open)
absent_las = run_is pipeline_alone ∙ ap (λ stages. and_then (and_then stages (named none_handed)) (run_of none_handed pipeline_alone)) chain_is

pub twice_read : answer none_handed run_p (files_with twice file_a) ≡ Ok two_points_twice
unfolding digits text_form evaluated
twice_read = run_read _ _ twice_is refl two_read refl (λ held. refl)

-- the first file can be read, and the second isn't there
pub second_unread : answer none_handed run_p (files_with second_absent file_a) ≡ Err (Device (Stage 1) Open)
second_unread = run_is (files_with second_absent file_a) ∙ ap (λ stages. and_then (and_then stages (named none_handed)) (run_of none_handed (files_with second_absent file_a))) absent_is
    ∙ ap (λ r. unless_unread (or_later 0 (why (las_read 0 r)) (Some (1, Device (Stage 1) Open))) (runs.run_over (joining (codes "b.las")) (opened_in none_handed (files_with second_absent file_a) (joining (codes "b.las"))))) two_read.is

-- ---- the other commands

plan_asked : task_of (codes "plan" ∷ codes "p.json" ∷ []) ≡ Ok (Plan_file (codes "p.json"))
unfolding command_of
plan_asked = refl

plan_is : plan_text (plan_of (from_las (writer_after 0 (codes "o.txt") ∷ []))) ≡ codes "run 0 1\nsteps 1\n"
unfolding end_of digits
plan_is = refl

pub chain_planned : answer none_handed (codes "plan" ∷ codes "p.json" ∷ []) (files file_a) ≡ Ok (printed (codes "run 0 1\nsteps 1\n"))
chain_planned = ap (λ task. and_then task (done none_handed (files file_a))) plan_asked ∙ ap (λ stages. and_then stages (λ ss. Ok (printed (plan_text (plan_of ss))))) chain_is ∙ ap (λ text. Ok (printed text)) plan_is

gen_asked : task_of (codes "gen" ∷ codes "1" ∷ codes "g.las" ∷ []) ≡ Ok (Make_file 1 (codes "g.las"))
unfolding command_of
gen_asked = refl

pub one_made : (m : Names) → answer none_handed (codes "gen" ∷ codes "1" ∷ codes "g.las" ∷ []) m ≡ Ok (made 1 (codes "g.las"))
one_made m = ap (λ task. and_then task (done none_handed m)) gen_asked

pub trial_typed : IsOk (stages_in trial_text)
unfolding trial_text ranges_of ranges_in decimal_of_text is_utf8 chars encode value punctuate lex content word after_number number_of scan_numeral kind_named
trial_typed = refl
