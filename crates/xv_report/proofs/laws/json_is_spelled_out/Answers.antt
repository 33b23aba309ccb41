use Rattle.xv_report.proofs.Spelled.{json-spelled}
use Rattle.xv_report.proofs.laws.json_is_spelled_out.Goals as goal

pub returns : goal.returns
returns c = json-spelled
