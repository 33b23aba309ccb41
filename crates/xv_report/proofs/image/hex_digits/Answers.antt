use Rattle.xv_report.proofs.Lanes.{within, all_looked_up}
use Rattle.xv_report.proofs.image.hex_digits.Goals as goal

pub swizzle : goal.swizzle
swizzle c = within c.args.numbers c.requires.sixteen c.requires.small

pub returns : goal.returns
returns c = all_looked_up c.args.numbers c.requires.sixteen c.requires.small
