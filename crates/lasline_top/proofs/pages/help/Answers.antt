use Rattle.std.proofs.Common.{refl}
use Rattle.lasline_top.specs.Pages.{help_page}
use Rattle.lasline_top.proofs.pages.help.Goals as goal

pub returns : goal.returns
unfolding help_page
returns c = refl
