-- What the answer of a size lookup tells of the number.
-- Assumes nothing.
use Rattle.std.proofs.Common.{◌≡◌, ℕ, Bool, true, false, Some, None, refl}
use Rattle.std.specs.Bool.{then_some}

-- some size: the number is known, and that is its size
pub known : (is : Bool) (size n : ℕ) → then_some is size ≡ Some n → (is ≡ true) × (size ≡ n)
known true size n e = (refl, cc)
known false size n e = cc

-- none: the number is unknown
pub unknown : (is : Bool) (size : ℕ) → then_some is size ≡ None → is ≡ false
unknown true size e = cc
unknown false size e = refl
