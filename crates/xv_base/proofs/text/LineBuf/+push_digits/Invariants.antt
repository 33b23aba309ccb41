use Rattle.xv_base.proofs.text.LineBuf.+push_digits.Given as goal

-- the digits left
abbrev pub decreases-push_digits : goal.decreases-push_digits
decreases-push_digits l = l.n
