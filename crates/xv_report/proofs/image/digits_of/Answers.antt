use Rattle.xv_report.proofs.Lanes.{high-long, low-long, high-small, low-small, digits_paired}
use Rattle.xv_report.proofs.image.digits_of.Goals as goal

pub hex_digits-high-requires-clause-sixteen : goal.hex_digits-high-requires-clause-sixteen
hex_digits-high-requires-clause-sixteen c = high-long c.args.bytes c.requires.sixteen

pub hex_digits-high-requires-clause-small : goal.hex_digits-high-requires-clause-small
hex_digits-high-requires-clause-small c = high-small c.args.bytes c.fits-bytes.1

pub hex_digits-low-requires-clause-sixteen : goal.hex_digits-low-requires-clause-sixteen
hex_digits-low-requires-clause-sixteen c = low-long c.args.bytes c.requires.sixteen

pub hex_digits-low-requires-clause-small : goal.hex_digits-low-requires-clause-small
hex_digits-low-requires-clause-small c = low-small c.args.bytes c.fits-bytes.1

pub returns : goal.returns
returns c = digits_paired c.args.bytes c.hex_digits-high.result c.hex_digits-low.result c.requires.sixteen c.hex_digits-high.ensures c.hex_digits-low.ensures
