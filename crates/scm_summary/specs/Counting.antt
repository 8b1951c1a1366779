-- Counts of calls while they are made: the first is that of caller 1, and each is the only one of its caller.
use Rattle.std.specs.Prelude.{ℕ, ◌≡◌, ◌+◌, ◌<◌, ◌^◌, List, Option, None, Some, length, get_or}
use Rattle.scm_model.specs.Entries.{Entry}
use Rattle.step_code.specs.declared.fronts_read.Front.{Front}
use Rattle.step_code.specs.declared.fronts_read.Front.TheVariants as fronts
use Rattle.scm_summary.specs.Calls.{calls_of, one_if_its}

pub record IsZeros (count : ℕ) (counts : List ℕ) : Type 0 where
  pub long : length counts ≡ count
  pub nought : (k : ℕ) → get_or counts k 0 ≡ 0

-- no count gets too great by this caller's call
abbrev pub HasRoomFor : List ℕ → Option ℕ → Type 0
HasRoomFor counts caller = (k : ℕ) → k < length counts → get_or counts k 0 + one_if_its (k + 1) caller < 2 ^ 64

-- the caller's count is one more, where it has one
pub record Raises (counts : List ℕ) (caller : Option ℕ) (now : List ℕ) : Type 0 where
  pub long : length now ≡ length counts
  pub each : (k : ℕ) → k < length counts → get_or now k 0 ≡ get_or counts k 0 + one_if_its (k + 1) caller

-- what is counted and what is yet to be counted, of the entries that are left, are the calls of each caller
pub record CountsTo (h left : List Entry) (callers : ℕ) (counts : List ℕ) : Type 0 where
  pub long : length counts ≡ callers
  pub each : (k : ℕ) → k < callers → get_or counts k 0 + calls_of (k + 1) left ≡ calls_of (k + 1) h

-- what an entry's front adds to the callers that joined, and whose call it is
abbrev pub one_of : Front → ℕ
one_of fronts.Joined = 1
one_of front = 0

abbrev pub caller_of : Front → Option ℕ
caller_of (fronts.Called caller) = Some caller
caller_of front = None
