-- The outcome of one accept.
use Rattle.std.specs.Prelude.{ℕ, ◌≡◌, Bool, true, false}
use Rattle.scm_model.specs.declared.flat.Principal.{Principal}
use Rattle.book_rule.specs.declared.view.Opening.{Opening}
use Rattle.scm_server.specs.declared.accepting.Next.{Next}
use Rattle.scm_server.specs.declared.accepting.Next.TheVariants as nexts
use Rattle.scm_server.specs.Ports.{HasFailed, IsClosed, Told}
use Rattle.scm_server.specs.Serving.{GoesOn, Stand}

-- why none comes any more
abbrev pub EndsBy : Bool → (l l' : Told) → Type 0
EndsBy true l l' = HasFailed l l'
EndsBy false l l' = IsClosed l l'

-- it goes on to the next stand, and a listener that gave a connection didn't fail
abbrev pub ServesNext : (ℕ → Type 0) → Opening → Principal → (s s' : Stand) → Next → Type 0
ServesNext tells o principal s s' nexts.Came = GoesOn tells o principal s s' × (s'.told.faults ≡ s.told.faults)
ServesNext tells o principal s s' (nexts.Over is_failed) = GoesOn tells o principal s s' × EndsBy is_failed s.told s'.told
