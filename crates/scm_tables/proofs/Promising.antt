-- What room stays while room is made for something else.
use Rattle.std.proofs.Common.{ℕ, ◌≡◌, length, ap, arith, subst, sym}
use Rattle.scm_model.specs.declared.flat.Flat.{Flat}
use Rattle.scm_tables.specs.Firing.{HasFires, HasStarts, commands_in, starts_in}
use Rattle.scm_tables.specs.Promised.{KeepsRooms}
use Rattle.scm_tables.specs.Tabled.{Tabled}

pub keeps_all : (t : Tabled) → KeepsRooms t t
keeps_all t = record {
  services = omega arith;
  handles = omega arith;
  callers = omega arith;
  registrations = λ one. one;
  plans = omega arith;
  dues = omega arith;
  tried = omega arith;
  starts = λ wide. omega arith;
  entries = omega arith;
  commands = omega arith;
}

pub keeps_both : (a b c : Tabled) → b.flat ≡ a.flat → KeepsRooms a b → KeepsRooms b c → KeepsRooms a c
keeps_both a b c flat first then =
    let many : length b.flat.services ≡ length a.flat.services = ap (λ (f : Flat). length f.services) flat in
    record {
      services = omega (arith, first.services, then.services);
      handles = omega (arith, first.handles, then.handles);
      callers = omega (arith, first.callers, then.callers);
      registrations = λ one. then.registrations (first.registrations one);
      plans = omega (arith, first.plans, then.plans);
      dues = omega (arith, first.dues, then.dues);
      tried = omega (arith, first.tried, then.tried);
      starts = λ wide. omega (arith, first.starts wide, then.starts (omega (arith, many, wide, first.entries)));
      entries = omega (arith, first.entries, then.entries);
      commands = omega (arith, first.commands, then.commands);
    }

-- ## Room that was promised is still there

pub keeps_starts : (old new : Tabled) (count : ℕ) → new.flat ≡ old.flat → KeepsRooms old new → HasStarts count old → HasStarts count new
keeps_starts old new count flat keeps has =
    let many : length new.flat.services ≡ length old.flat.services = ap (λ (f : Flat). length f.services) flat in
    record {
      starts = omega (arith, has.starts, keeps.starts has.entries);
      plans = omega (arith, has.plans, keeps.plans);
      dues = omega (arith, has.dues, keeps.dues);
      entries = omega (arith, many, has.entries, keeps.entries);
    }

pub keeps_fires : (old new : Tabled) → new.flat ≡ old.flat → KeepsRooms old new → HasFires old → HasFires new
keeps_fires old new flat keeps has =
    let starts : starts_in new.flat.dues ≡ starts_in old.flat.dues = ap (λ (f : Flat). starts_in f.dues) flat in
    let commands : commands_in new.flat.dues ≡ commands_in old.flat.dues = ap (λ (f : Flat). commands_in f.dues) flat in
    record {
      starts = subst (λ (n : ℕ). HasStarts n new) (sym starts) (keeps_starts old new (starts_in old.flat.dues) flat keeps has.starts);
      commands = omega (arith, commands, has.commands, keeps.commands);
    }
