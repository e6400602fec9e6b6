-- What a maker gives, as bytes.
use Rattle.std.specs.Prelude.{ℕ, Err, List, Ok, Result}
use Rattle.std.specs.declared.alloc.Global.{Global}
use Rattle.std.specs.declared.vec.Vec.{Vec}
use Rattle.page_run.specs.declared.stop.NoPage.{NoPage}

abbrev pub made_of : Result (Vec ℕ Global) NoPage → Result (List ℕ) NoPage
made_of (Ok page) = Ok page.items
made_of (Err no_page) = Err no_page
