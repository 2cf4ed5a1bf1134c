-- The files of the worked examples.
use Rattle.std.specs.Prelude.{ℕ, ◌+◌, List, [], ◌∷◌, ◌++◌, replicate, take, drop, length, codes, Some, None, if◌then◌else◌}
use Rattle.std.specs.Str.{bytes_eq}
use Rattle.file_devices.specs.Named.{Names}
use Rattle.answer_model.specs.Runs.{Run}

-- the binary64 word nearest to 0.01
abbrev pub cent : List ℕ
cent = 0x7b ∷ 0x14 ∷ 0xae ∷ 0x47 ∷ 0xe1 ∷ 0x7a ∷ 0x84 ∷ 0x3f ∷ []

-- the word of its next neighbour above
abbrev pub neighbour : List ℕ
neighbour = 0x7c ∷ 0x14 ∷ 0xae ∷ 0x47 ∷ 0xe1 ∷ 0x7a ∷ 0x84 ∷ 0x3f ∷ []

-- the words of 1 and of 999999999
abbrev pub one : List ℕ
one = 0 ∷ 0 ∷ 0 ∷ 0 ∷ 0 ∷ 0 ∷ 0xf0 ∷ 0x3f ∷ []

abbrev pub far : List ℕ
far = 0 ∷ 0 ∷ 0x80 ∷ 0xff ∷ 0x64 ∷ 0xcd ∷ 0xcd ∷ 0x41 ∷ []

-- a header block of LAS 1.4 with this signature, for so many points of this format in records of this size, with this
-- scale and this offset of X
abbrev pub header_on : List ℕ → ℕ → ℕ → ℕ → List ℕ → List ℕ → List ℕ
header_on signature format size count scale offset = signature ++ replicate 20 0 ++ (1 ∷ 4 ∷ []) ++ replicate 68 0 ++ (0x77 ∷ 1 ∷ []) ++ (0x77 ∷ 1 ∷ 0 ∷ 0 ∷ []) ++ replicate 4 0
    ++ (format ∷ []) ++ (size ∷ 0 ∷ []) ++ (count ∷ 0 ∷ 0 ∷ 0 ∷ []) ++ (count ∷ replicate 19 0) ++ scale ++ cent ++ cent ++ offset ++ replicate 16 0 ++ replicate 48 0 ++ replicate 20 0
    ++ (count ∷ replicate 7 0) ++ (count ∷ replicate 119 0)

-- one for so many points of format 0 in records of 20 bytes, with scales of 0.01 and offsets of 0
abbrev pub header_with : List ℕ → ℕ → List ℕ
header_with signature count = header_on signature 0 20 count cent (replicate 8 0)

abbrev pub first_record : List ℕ
first_record = 0x64 ∷ 0 ∷ 0 ∷ 0 ∷ 0xc8 ∷ 0 ∷ 0 ∷ 0 ∷ 0x2c ∷ 1 ∷ 0 ∷ 0 ∷ 0 ∷ 0 ∷ 9 ∷ 2 ∷ 0 ∷ 0 ∷ 0 ∷ 0 ∷ []

abbrev pub second_record : List ℕ
second_record = 0xff ∷ 0xff ∷ 0xff ∷ 0xff ∷ 0 ∷ 0 ∷ 0 ∷ 0 ∷ 5 ∷ 0 ∷ 0 ∷ 0 ∷ 0 ∷ 0 ∷ 9 ∷ 2 ∷ 0 ∷ 0 ∷ 0 ∷ 0 ∷ []

abbrev pub records : List ℕ
records = first_record ++ second_record

-- a LAS file of two points, and others that differ from it in one thing
abbrev pub file_a : List ℕ
file_a = header_with (codes "LASF") 2 ++ records

-- the same points in records of format 6, with 3 bytes behind the fields of each
abbrev pub longer : List ℕ → List ℕ
longer fields = take 12 fields ++ replicate 18 0 ++ (1 ∷ 2 ∷ 3 ∷ [])

abbrev pub file_of_format_6 : List ℕ
file_of_format_6 = header_on (codes "LASF") 6 33 2 cent (replicate 8 0) ++ longer first_record ++ longer second_record

-- a file with these bytes from a place on
abbrev pub patched : ℕ → List ℕ → List ℕ → List ℕ
patched at piece file = take at file ++ piece ++ drop (at + length piece) file

-- the same points in a file of LAS 1.2, whose header block ends with the bounds, and such files of another version and of format 6
abbrev pub file_of_1_2 : List ℕ
file_of_1_2 = patched 94 (0xe3 ∷ 0 ∷ 0xe3 ∷ 0 ∷ 0 ∷ 0 ∷ []) (patched 25 (2 ∷ []) (take 227 file_a)) ++ records

abbrev pub file_of_1_1 : List ℕ
file_of_1_1 = patched 25 (1 ∷ []) file_of_1_2

abbrev pub file_of_1_2_in_format_6 : List ℕ
file_of_1_2_in_format_6 = patched 104 (6 ∷ []) file_of_1_2

-- a header that counts one VLR, the most VLRs that it can, and an EVLR at the last place that it can name
abbrev pub file_of_a_vlr : List ℕ
file_of_a_vlr = patched 100 (1 ∷ 0 ∷ 0 ∷ 0 ∷ []) file_a

abbrev pub file_of_many_vlrs : List ℕ
file_of_many_vlrs = patched 100 (replicate 4 0xff) file_a

abbrev pub file_of_a_far_evlr : List ℕ
file_of_a_far_evlr = patched 235 (replicate 8 0xff ++ (1 ∷ 0 ∷ 0 ∷ 0 ∷ [])) file_a

abbrev pub file_compressed : List ℕ
file_compressed = header_on (codes "LASF") 131 20 2 cent (replicate 8 0) ++ records

abbrev pub file_of_neighbour : List ℕ
file_of_neighbour = header_on (codes "LASF") 0 20 2 neighbour (replicate 8 0) ++ records

-- a LAS file of one point, as far from 0 as a point can be
abbrev pub file_far : List ℕ
file_far = header_on (codes "LASF") 0 20 1 one far ++ (0xff ∷ 0xff ∷ 0xff ∷ 0x7f ∷ replicate 16 0)

abbrev pub file_with_x : List ℕ
file_with_x = header_with (codes "XASF") 2 ++ records

abbrev pub file_without_points : List ℕ
file_without_points = header_with (codes "LASF") 0

-- a pipeline file, and a LAS file
abbrev pub files_with : List ℕ → List ℕ → Names
files_with pipeline las = λ name. (if bytes_eq name (codes "p.json") then Some pipeline else (if bytes_eq name (codes "in.las") then Some las else None))

abbrev pub pipeline_text : List ℕ
pipeline_text = codes "[\"in.las\",\"o.txt\"]"

-- the same with a head between
abbrev pub head_of_1 : List ℕ
head_of_1 = codes "[\"in.las\",{\"type\":\"filters.head\",\"count\":1},\"o.txt\"]"

abbrev pub head_of_0 : List ℕ
head_of_0 = codes "[\"in.las\",{\"type\":\"filters.head\",\"count\":0},\"o.txt\"]"

-- the same with a tag on the head
abbrev pub tagged_head : List ℕ
tagged_head = codes "[\"in.las\",{\"type\":\"filters.head\",\"tag\":\"a\",\"count\":1},\"o.txt\"]"

-- a reader alone, and a writer before a head
abbrev pub reader_alone : List ℕ
reader_alone = codes "[\"in.las\"]"

abbrev pub writer_between : List ℕ
writer_between = codes "[\"in.las\",{\"type\":\"writers.text\",\"filename\":\"all.txt\"},{\"type\":\"filters.head\",\"count\":1},\"o.txt\"]"

abbrev pub files : List ℕ → Names
files las = files_with pipeline_text las

abbrev pub pipeline_alone : Names
pipeline_alone = λ name. (if bytes_eq name (codes "p.json") then Some pipeline_text else None)

abbrev pub run_p : List (List ℕ)
run_p = codes "run" ∷ codes "p.json" ∷ []

-- the same command in the least pieces
abbrev pub run_p_in_pieces : List (List ℕ)
run_p_in_pieces = codes "run" ∷ codes "p.json" ∷ codes "--chunk" ∷ codes "1" ∷ codes "--queue" ∷ codes "1" ∷ []

abbrev pub two_points : Run
two_points = record {
  outputs = record { stage = 1; view = None; name = codes "o.txt"; bytes = codes "\"X\",\"Y\",\"Z\"\n1.000,2.000,3.000\n-0.010,0.000,0.050\n" } ∷ [];
  report = codes "stage 0 readers.las views 1 points 2\nstage 1 writers.text views 1 points 2 wrote 2\noutputs 1\n";
}

-- two readers before a writer, of one file, and of a second one that isn't there
abbrev pub twice : List ℕ
twice = codes "[\"in.las\",\"in.las\",\"o.txt\"]"

abbrev pub second_absent : List ℕ
second_absent = codes "[\"in.las\",\"b.las\",\"o.txt\"]"

abbrev pub two_points_twice : Run
two_points_twice = record {
  outputs = record { stage = 2; view = None; name = codes "o.txt"; bytes = codes "\"X\",\"Y\",\"Z\"\n1.000,2.000,3.000\n-0.010,0.000,0.050\n1.000,2.000,3.000\n-0.010,0.000,0.050\n" } ∷ [];
  report = codes "stage 0 readers.las views 1 points 2\nstage 1 readers.las views 1 points 2\nstage 2 writers.text views 2 points 4 wrote 4\noutputs 1\n";
}

abbrev pub far_point : Run
far_point = record {
  outputs = record { stage = 1; view = None; name = codes "o.txt"; bytes = codes "\"X\",\"Y\",\"Z\"\n3147483646.000,0.000,0.000\n" } ∷ [];
  report = codes "stage 0 readers.las views 1 points 1\nstage 1 writers.text views 1 points 1 wrote 1\noutputs 1\n";
}

abbrev pub no_points : Run
no_points = record {
  outputs = record { stage = 1; view = None; name = codes "o.txt"; bytes = codes "\"X\",\"Y\",\"Z\"\n" } ∷ [];
  report = codes "stage 0 readers.las views 1 points 0\nstage 1 writers.text views 1 points 0 wrote 0\noutputs 1\n";
}

abbrev pub first_point : Run
first_point = record {
  outputs = record { stage = 2; view = None; name = codes "o.txt"; bytes = codes "\"X\",\"Y\",\"Z\"\n1.000,2.000,3.000\n" } ∷ [];
  report = codes "stage 0 readers.las views 1 points 2\nstage 1 filters.head views 1 points 1\nstage 2 writers.text views 1 points 1 wrote 1\noutputs 1\n";
}

abbrev pub none_pass : Run
none_pass = record {
  outputs = record { stage = 2; view = None; name = codes "o.txt"; bytes = codes "\"X\",\"Y\",\"Z\"\n" } ∷ [];
  report = codes "stage 0 readers.las views 1 points 2\nstage 1 filters.head views 1 points 0\nstage 2 writers.text views 1 points 0 wrote 0\noutputs 1\n";
}

abbrev pub only_read : Run
only_read = record { outputs = []; report = codes "stage 0 readers.las views 1 points 2\noutputs 0\n" }

abbrev pub all_and_first : Run
all_and_first = record {
  outputs = record { stage = 1; view = None; name = codes "all.txt"; bytes = codes "\"X\",\"Y\",\"Z\"\n1.000,2.000,3.000\n-0.010,0.000,0.050\n" }
      ∷ record { stage = 3; view = None; name = codes "o.txt"; bytes = codes "\"X\",\"Y\",\"Z\"\n1.000,2.000,3.000\n" }
      ∷ [];
  report = codes "stage 0 readers.las views 1 points 2\nstage 1 writers.text views 1 points 2 wrote 2\nstage 2 filters.head views 1 points 1\nstage 3 writers.text views 1 points 1 wrote 1\noutputs 2\n";
}
