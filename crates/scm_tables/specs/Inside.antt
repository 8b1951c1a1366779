-- What contracts see of the lists' fields, and what is always true of them.
use Rattle.std.specs.Prelude.{ℕ, IsTrue, ◌≡◌, ◌≤◌, ◌<◌, ◌+◌, ◌-◌, [], All, length, min, vec_capacity, vec_len}
use Rattle.std.specs.List.{AllByRecursion}
use Rattle.scm_model.specs.declared.flat.Next.{Next}
use Rattle.scm_model.specs.declared.flat.Plan.{Plan}
use Rattle.scm_model.specs.Needs.{needs_of}
use Rattle.scm_model.specs.Walks.{IsAcyclic}
use Rattle.scm_rules.specs.Needs.{need_rows}
use Rattle.scm_rules.specs.Security.{IsSecured}
use Rattle.start_plan.specs.Asleep.{ArePending}
use Rattle.start_plan.specs.Settle.{stays}
use Rattle.scm_tables.specs.Marked.{marked_numbers}
use Rattle.scm_tables.specs.Places.{HasPlaces, places}
use Rattle.scm_tables.specs.Rooms.{AreRooms}
use Rattle.scm_tables.specs.Tabled.{AreByNumber, HasShort, Tabled}
use Rattle.scm_tables.specs.declared.tables.Numbers.{Numbers}
use Rattle.scm_tables.specs.declared.tables.Tables.TheInside.{Inside}

-- places that are neither taken nor kept for a service
abbrev pub free_places : Inside → ℕ
free_places t = t.dues.capacity - places t.services.services t.dues.rows

-- the numbers that are given next, with those of handles, of processes and of what becomes due
abbrev pub all_numbers : Numbers → ℕ → ℕ → ℕ → Next
all_numbers n handle process due = record {
  service = n.service;
  handle = handle;
  process = process;
  plan = n.plan;
  registration = n.registration;
  due = due;
  caller = n.caller;
}

abbrev pub tabled : Inside → Tabled
tabled t = record {
  flat = record {
    services = t.services.services;
    handles = t.handles.rows;
    processes = t.processes.processes;
    wanted = t.processes.wanted;
    plans = t.plans.plans;
    registrations = t.registrations.rows;
    dues = t.dues.rows;
    callers = t.callers.items;
    lock = t.lock;
    moment = t.moment;
    next = all_numbers t.next t.handles.next t.processes.next t.dues.next;
    reboots = t.reboots;
  };
  limits = t.limits;
  spare = record {
    services = min (free_places t) (length t.leaving.items + t.leaving.room - length t.services.services);
    needs = record { index = t.index.spare; rows = t.services.spare };
    handles = t.handles.spare;
    callers = vec_capacity t.callers - vec_len t.callers;
    registrations = t.registrations.spare;
    plans = t.plans.spare;
    dues = free_places t;
    tried = vec_capacity t.tried - vec_len t.tried;
    starts = length t.starts.items;
    entries = t.start_room;
    commands = length t.commands.items;
  };
}

-- a plan has a number below the next one, and is undecided or has a caller
pub record IsKeptPlan (next : ℕ) (plan : Plan) : Type 0 where
  pub below : plan.number < next
  pub staying : IsTrue (stays plan)

-- services stand in order of number; their paths and names are short, and their security descriptors written; their needs are kept, and
-- where it is said so, have no cycle; the numbers of those that are marked are kept, with room for each; as many
-- processes as may be listed find room; plans have numbers below
-- the next one, are undecided or have a caller, and sleep only for services whose state is about to change; what becomes due of a service
-- finds a place
pub record IsKept (t : Inside) : Type 0 where
  pub rising : AreByNumber t.next.service t.services.services
  pub texts : All HasShort t.services.services
  pub secured : All IsSecured t.services.services
  pub index : t.index.rows ≡ need_rows t.services.services
  pub needs : IsTrue t.acyclic → IsAcyclic (needs_of (need_rows t.services.services))
  pub marked : t.leaving.items ≡ marked_numbers t.services.services
  pub marks : length t.services.services ≤ length t.leaving.items + t.leaving.room
  pub room : t.limits.processes ≤ t.processes.capacity
  pub plans : AllByRecursion (IsKeptPlan t.next.plan) t.plans.plans
  pub pending : ArePending t.services.services t.plans.awaited
  pub untried : t.tried.items ≡ []
  pub dues : HasPlaces t.services.services t.dues.rows t.dues.capacity
  pub rooms : AreRooms t.start_room t.starts.items t.commands.items
