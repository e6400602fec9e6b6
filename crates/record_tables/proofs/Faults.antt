-- Faults that are passed on.
use Rattle.std.proofs.Common.{◌≡◌, Result, Ok, Err, ap}
use Rattle.std.specs.Result.{IsErrAnd}
use Rattle.record_tables.specs.Base.{◌>>=◌, Fails, Gives}
use Rattle.record_tables.specs.declared.fault.BaseError.{BaseError}
use Rattle.record_tables.specs.declared.fault.BaseError.TheVariants as error

-- a fault of the first step is one of both
pub fails-first : {A B : Type 0} (e : BaseError) (due : Result A BaseError)
    (f : A → Result B BaseError) → Fails e due → Fails e (due >>= f)
fails-first error.Memory due f h = tt
fails-first (error.Table name) due f h = ap (λ d. d >>= f) h
fails-first (error.Rule name row rule values) due f h = ap (λ d. d >>= f) h

pub passed-on : {A : Type 0} (r : Result A BaseError) (was : BaseError) (due : Result A BaseError)
    → IsErrAnd r (λ e. e ≡ was) → Fails was due → Gives r due
passed-on (Ok x) was due h f = absurd h
passed-on (Err e) was due h f = rw h f
