use Rattle.network_workers.proofs.tree.run_opened.Given as goal

abbrev pub ghosts-run_deals : goal.ghosts-run_deals
ghosts-run_deals g a = record { name = a.blank.name; parts = a.blank.parts }

abbrev pub ghost-gather : goal.ghost-gather
ghost-gather g a = g.turned
