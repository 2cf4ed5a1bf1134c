use Rattle.plug_stages.proofs.Spiking.{spikes_dropped}
use Rattle.plug_stages.proofs.spike.Spike.new.Goals as goal

pub returns-clause-rule : goal.returns-clause-rule
returns-clause-rule c view = spikes_dropped view
