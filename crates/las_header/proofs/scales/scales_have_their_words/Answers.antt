use Rattle.las_header.proofs.ScaleLaw as law
use Rattle.las_header.proofs.scales.scales_have_their_words.Goals as goal

pub returns : goal.returns
returns c = law.scales_have_their_words
