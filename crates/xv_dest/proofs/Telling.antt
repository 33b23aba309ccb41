-- What a device that tells its contents tells after a call.
use Rattle.std.proofs.Common.{◌≡◌, ℕ, true, List, [], Option, Some, None, refl}
use Rattle.std.specs.Prelude.{option_map, unwrap_or, is_some, IfSome}

pub tells_after : (o : Option (List (List ℕ))) (f : List (List ℕ) → List (List ℕ)) → is_some o ≡ true → is_some (option_map f o) ≡ true
tells_after None f e = absurd (cc)
tells_after (Some x) f e = refl

pub told_then : (o : Option (List (List ℕ))) (f : List (List ℕ) → List (List ℕ)) → is_some o ≡ true → unwrap_or (option_map f o) [] ≡ f (unwrap_or o [])
told_then None f e = absurd (cc)
told_then (Some x) f e = refl

pub told_of : (o : Option (List (List ℕ))) (P : List (List ℕ) → Type 0) → is_some o ≡ true → IfSome o P → P (unwrap_or o [])
told_of None P e h = absurd (cc)
told_of (Some x) P e h = h
