-- Worked examples, by computing.
use Rattle.std.proofs.Common.{◌≡◌, [], ◌∷◌, map, pos, negsuc, Some, None, refl}
use Rattle.ieee_words.specs.DecimalOfWord.{scale_of_word, decimal_of_word}
use Rattle.extra_bytes.specs.Descriptors.{fields_behind, fields_of}
use Rattle.extra_bytes.specs.Written.{descriptor_bytes}
use Rattle.extra_bytes.specs.Values.{extra_read, extra_written}
use Rattle.extra_bytes.specs.Rows.{parts_of, hundredths, tenths, hundredths_descriptor, tenths_descriptor, float_and_hundredths, high_record, low_record, empty_record, high_tenths, low_tenths}

pub whole : map parts_of (fields_of hundredths_descriptor 20 24) ≡ parts_of (hundredths 20) ∷ []
unfolding fields_behind scale_of_word decimal_of_word
whole = refl

pub short : map parts_of (fields_of hundredths_descriptor 20 23) ≡ []
unfolding fields_behind scale_of_word decimal_of_word
short = refl

pub stepped_over : map parts_of (fields_of float_and_hundredths 20 28) ≡ parts_of (hundredths 24) ∷ []
unfolding fields_behind scale_of_word decimal_of_word
stepped_over = refl

pub high : extra_read (hundredths 20) high_record ≡ Some (pos 2_500_000_000)
unfolding extra_read
high = refl

pub low : extra_read (hundredths 20) low_record ≡ Some (negsuc 9_999_999)
unfolding extra_read
low = refl

pub high_written : extra_written tenths (pos 2_500_000_000) empty_record ≡ Some high_tenths
unfolding extra_written
high_written = refl

pub low_written : extra_written tenths (negsuc 9_999_999) empty_record ≡ Some low_tenths
unfolding extra_written
low_written = refl

pub refused : extra_written tenths (pos 10_000_000_000_000) empty_record ≡ None
unfolding extra_written
refused = refl

pub descriptor : descriptor_bytes tenths ≡ tenths_descriptor
descriptor = refl
