use Rattle.fmu_host.proofs.Rows.{keeps_rows}
use Rattle.fmu_host.proofs.hosting.host_words.Goals as goal

pub returns : goal.returns
returns g c = keeps_rows c.host.result _ c.host.ensures c.status.ensures
