-- What a run did to the world: what its objects tell of their bytes, and their counts of faults, before and after the run.
use Rattle.std.specs.Prelude.{ℕ, ◌≡◌, List, Option}
use Rattle.scm_listener.specs.Connections.{PastConnection}
use Rattle.scm_listener.specs.declared.listener.Listening.{Listening}
use Rattle.scm_server.specs.Ports.{Told}
use Rattle.scm_serving.specs.Listening.{told_by}
use Rattle.scmd_top.specs.declared.world.JobWorld.{JobWorld}

pub record Side : Type 0 where
  pub told : Option (List ℕ)
  pub told_now : Option (List ℕ)
  pub faults : ℕ
  pub faults_now : ℕ

abbrev pub side : {A : Type 0} → (A → Option (List ℕ)) → (A → ℕ) → (before now : A) → Side
side told faults before now = record { told = told before; told_now = told now; faults = faults before; faults_now = faults now }

-- it tells the same bytes, and failed no more
pub record IsUntouched (s : Side) : Type 0 where
  pub bytes : s.told_now ≡ s.told
  pub faults : s.faults_now ≡ s.faults

pub record Sides : Type 0 where
  pub input : Side
  pub output : Side
  pub keeper : Side

abbrev pub sides_of : {I O K N P C : Type 0} → (left : I → Option (List ℕ)) (source : I → ℕ) (held : O → Option (List ℕ)) (sink : O → ℕ)
    (bytes : K → Option (List ℕ)) (keeper : K → ℕ) → JobWorld I O K N P C → JobWorld I O K N P C → Sides
sides_of left source held sink bytes keeper w w' = record {
  input = side left source w.input w'.input;
  output = side held sink w.output w'.output;
  keeper = side bytes keeper w.keeper w'.keeper;
}

-- what the listeners tell, before and after the run
pub record Ports : Type 0 where
  pub admin : Told
  pub admin_now : Told
  pub user : Told
  pub user_now : Told

abbrev pub ports_of : {I O K N P C : Type 0} → (left : N → Option (List (List ℕ))) → (accepted : N → ℕ)
    → (noted : N → Option (List PastConnection))
    → (listened : N → Option (List Listening)) → (faults : N → ℕ) → JobWorld I O K N P C → JobWorld I O K N P C → Ports
ports_of left accepted noted listened faults w w' = record {
  admin = told_by left accepted noted listened faults w.admin;
  admin_now = told_by left accepted noted listened faults w'.admin;
  user = told_by left accepted noted listened faults w.user;
  user_now = told_by left accepted noted listened faults w'.user;
}

-- what serves and is served is as it was
pub record LeavesPorts {I O K N P C : Type 0} (w w' : JobWorld I O K N P C) : Type 0 where
  pub admin : w'.admin ≡ w.admin
  pub user : w'.user ≡ w.user
  pub spawner : w'.spawner ≡ w.spawner
