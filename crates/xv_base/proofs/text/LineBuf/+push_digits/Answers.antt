use Rattle.std.proofs.Common.{◌≡◌, ℕ, ◌+◌, ◌<◌, ◌≤◌, ◌/◌, ◌%◌, ◌^◌, [], ◌∷◌, ◌++◌, length, decimal, List, arith, ap, sym, ◌∙◌, append_assoc, length-append}
use Rattle.std.proofs.lemmas.Fmt.{decimal_step, decimal_digit, decimal_nonempty}
use Rattle.xv_base.proofs.text.LineBuf.+push_digits.Goals as goal
use Rattle.xv_base.proofs.text.LineBuf.+push_digits.Goals.{then-n-ge10, else-n-ge10}

-- one digit more than the digits of the tenth
length-decimal_step : (n : ℕ) → 10 ≤ n → n < 2 ^ 64 → length (decimal n) ≡ length (decimal (n / 10)) + 1
length-decimal_step n h l =
    ap length (decimal_step n h l) ∙ length-append (decimal (n / 10)) ((48 + n % 10) ∷ [])

room_more : (n t had : ℕ) → 10 ≤ n → n < 2 ^ 64 → n ≡ t → had + length (decimal n) ≤ 256 → (n / 10 < t) × (had + length (decimal (n / 10)) ≤ 256)
room_more n t had h l e r = (omega arith, omega (arith, length-decimal_step n h l))

-- with the tenth's digits and the last
digits_more : (n : ℕ) (was now last : List ℕ) (d : ℕ) → 10 ≤ n → n < 2 ^ 64 → now ≡ was ++ decimal (n / 10) → last ≡ now ++ d ∷ [] → d ≡ 48 + n % 10 → last ≡ was ++ decimal n
digits_more n was now last d h l e f g =
    f ∙ ap (λ xs. xs ++ d ∷ []) e ∙ append_assoc was (decimal (n / 10)) (d ∷ [])
    ∙ ap (λ k. was ++ (decimal (n / 10) ++ k ∷ [])) g ∙ ap (λ xs. was ++ xs) (sym (decimal_step n h l))

digits_one : (n : ℕ) (was last : List ℕ) (d : ℕ) → n < 10 → last ≡ was ++ d ∷ [] → d ≡ 48 + n → last ≡ was ++ decimal n
digits_one n was last d h f g = f ∙ ap (λ k. was ++ k ∷ []) g ∙ ap (λ xs. was ++ xs) (sym (decimal_digit n h))

pub push_digits-requires : goal.push_digits-requires
push_digits-requires t c = room_more c.args.n t (length c.args.self.now) (omega arith) (omega arith) (omega arith) c.requires

pub push-requires : goal.push-requires
push-requires t c = elim c.if-n-ge10.branch [
  | then-n-ge10 w ↦ omega (arith, ap length w.self-is, ap length w.push_digits.ensures, length-append c.args.self.now (decimal (c.args.n / 10)), length-decimal_step c.args.n (omega arith) (omega arith))
  | else-n-ge10 w ↦ omega (arith, ap length w.self-is, decimal_nonempty c.args.n (omega arith))
]

pub returns : goal.returns
returns t c = elim c.if-n-ge10.branch [
  | then-n-ge10 w ↦ digits_more c.args.n c.args.self.now c.if-n-ge10.self c.push.new.self _ (omega arith) (omega arith) (w.self-is ∙ w.push_digits.ensures) c.push.ensures (omega arith)
  | else-n-ge10 w ↦ digits_one c.args.n c.args.self.now c.push.new.self _ (omega arith) (c.push.ensures ∙ ap (λ (xs : List ℕ). xs ++ (48 + c.args.n % 10) ∷ []) w.self-is) (omega arith)
]
