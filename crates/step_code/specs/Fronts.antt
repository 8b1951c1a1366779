-- What an entry says of callers, and the bytes after its code.
use Rattle.std.specs.Prelude.{◌≡◌, ◌==◌, ◌||◌, ℕ, Bool, false, List, Option, None, Some, if◌then◌else◌}
use Rattle.std.specs.List.{list_any}
use Rattle.scm_model.specs.declared.codes.TheConstants.{R_CLOSE_NOTIFY_HANDLE, R_CLOSE_SERVICE_HANDLE, R_DELETE_SERVICE}
use Rattle.scm_model.specs.declared.codes.TheConstants.{R_GET_NOTIFY_RESULTS, R_LOCK_SERVICE_DATABASE, R_QUERY_SERVICE_STATUS}
use Rattle.scm_model.specs.declared.codes.TheConstants.{R_UNLOCK_SERVICE_DATABASE}
use Rattle.scm_model.specs.declared.steps.Step.{Step}
use Rattle.scm_model.specs.declared.steps.Step.TheVariants as steps
use Rattle.step_code.specs.Reading.{◌>>=◌, Item, entry_at, fields_at, has_number, has_numbers, items_at, n2_at}
use Rattle.step_code.specs.declared.fronts_read.Front.{Front}
use Rattle.step_code.specs.declared.fronts_read.Front.TheVariants as fronts

abbrev pub front_of : Step → Front
front_of (steps.Joined principal) = fronts.Joined
front_of (steps.Call caller request append) = fronts.Called caller
front_of (steps.Raised caller subtype) = fronts.Called caller
front_of (steps.NoMemory caller) = fronts.Called caller
front_of step = fronts.Neither

-- the front of the entry that the bytes begin with
abbrev pub front_at : List ℕ → Item Front
front_at bytes = entry_at bytes >>= λ read. Some (front_of read.0.1, read.1)

abbrev pub has_handle : ℕ → Bool
has_handle opnum =
    opnum == R_CLOSE_SERVICE_HANDLE || opnum == R_DELETE_SERVICE || opnum == R_LOCK_SERVICE_DATABASE || opnum == R_QUERY_SERVICE_STATUS
    || opnum == R_UNLOCK_SERVICE_DATABASE || opnum == R_GET_NOTIFY_RESULTS || opnum == R_CLOSE_NOTIFY_HANDLE

-- how many bytes the fields of a request have that is of a handle and at most two numbers
abbrev pub plain_size : ℕ → Option ℕ
plain_size opnum =
    if has_handle opnum then Some 8
    else if has_number opnum then Some 12
    else if has_numbers opnum then Some 16
    else None

-- something was read, and this is the rest
abbrev pub Leaves : {A : Type 0} → Item A → List ℕ → Type 0
Leaves {A} read rest = (x : A) × (read ≡ Some (x, rest))

-- the bytes begin with so many units, none of which is 0, and then there is the rest
abbrev pub HasUnits : ℕ → List ℕ → List ℕ → Type 0
HasUnits count bytes rest =
    (units : List ℕ) × (items_at n2_at count bytes ≡ Some (units, rest)) × (list_any (λ u. u == 0) units ≡ false)

-- the bytes begin with the fields of a request of this opnum, and then there is the rest
abbrev pub HasFields : ℕ → List ℕ → List ℕ → Type 0
HasFields opnum bytes rest = Leaves (fields_at opnum bytes) rest
