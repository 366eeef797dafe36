-- What the exit of a `?` hands on.
use Rattle.std.proofs.Common.{◌≡◌, ap, Result, Ok, Err}
use Rattle.std.specs.Result.{IsErrAnd}

-- it is the error that was found
pub err_is : {X E : Type 0} (r : Result X E) (e : E) → IsErrAnd r (λ (x : E). x ≡ e) → r ≡ Err e
err_is {E = E} (Ok x) e is = absurd is
err_is {E = E} (Err x) e is = ap (λ (y : E). Err y) is
