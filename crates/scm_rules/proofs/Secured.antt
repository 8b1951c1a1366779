-- Security descriptors of services: what is kept is written, and so is what a call sets.
use Rattle.std.proofs.Common.{ℕ, zero, suc, ◌≡◌, ◌+◌, ◌≤◌, ◌<◌, ◌^◌, ◌==◌, ◌∙◌, Bool, true, false, cond, List, [], ◌∷◌, length, Option}
use Rattle.std.proofs.Common.{None, Some}
use Rattle.std.proofs.Common.{Result, Ok, Err, find, get_or, map, inl, inr, arith, refl, sym, ap, subst, lt-ltb, ltb-true}
use Rattle.std.specs.Prelude.{All, IfSome, option_and_then, option_map, unwrap_or}
use Rattle.std.specs.List.{list_all}
use Rattle.std.specs.Result.{result_ok}
use Rattle.std.proofs.lemmas.Bool.{and_from, and_parts}
use Rattle.std.proofs.lemmas.List.Elements.{All-cons, All-from_recursion, All-map, All-nil}
use Rattle.scm_model.specs.declared.flat.Config.{Config}
use Rattle.scm_model.specs.declared.flat.Flat.{Flat}
use Rattle.scm_model.specs.declared.flat.Opened.{Opened}
use Rattle.scm_model.specs.declared.flat.Service.{Service}
use Rattle.scm_model.specs.Changes.{new_service}
use Rattle.scm_model.specs.Rows.{held_service, opened}
use Rattle.sec_desc.specs.declared.value.Ace.{Ace}
use Rattle.sec_desc.specs.declared.value.Descriptor.{Descriptor}
use Rattle.sec_desc.specs.declared.value.Sid.{Sid}
use Rattle.sec_desc.specs.Reading.{described, header_in}
use Rattle.sec_desc.specs.Writing.{IsAceValue, IsShort, IsSidValue, IsValue, IsWritable, IsWritableAcl, IsWritten, descriptor_bytes}
use Rattle.sec_desc.specs.Writing.{part_if}
use Rattle.sec_desc.specs.Writing.{parts_asked, size_of_aces}
use Rattle.sec_desc.proofs.Back.{read_back}
use Rattle.sec_desc.proofs.Bytes.{IsBytes}
use Rattle.sec_desc.proofs.Descriptors.{is_described}
use Rattle.sec_desc.proofs.Fitting.{can_be_written}
use Rattle.sec_check.specs.Allowed.{administrators, users}
use Rattle.scm_text.specs.Numbers.{has_bits}
use Rattle.scm_rules.specs.Security.{IsSecured, allow, asked_security, base, default_descriptor, descriptor_in, is_byte, local_system}
use Rattle.scm_rules.specs.Security.{new_security, replaced, secured_if, security_of}
use Rattle.scm_rules.specs.Create.{new_status}
use Rattle.scm_rules.specs.Opening.{services_from}

-- a descriptor that has a written form
pub record Fits (d : Descriptor) : Type 0 where
  pub writable : IsWritable d
  pub value : IsValue d

-- ## What bytes are

pub all_bytes : (bytes : List ℕ) → IsBytes bytes → list_all is_byte bytes ≡ true
all_bytes [] fits = refl
all_bytes (byte ∷ bytes) fits =
    and_from (is_byte byte) (list_all is_byte bytes) (lt-ltb byte 256 (fits zero)) (all_bytes bytes (λ i. fits (suc i)))

pub are_bytes : (bytes : List ℕ) → list_all is_byte bytes ≡ true → IsBytes bytes
are_bytes [] all i = omega arith
are_bytes (byte ∷ bytes) all zero = ltb-true byte 256 (and_parts (is_byte byte) (list_all is_byte bytes) all).0
are_bytes (byte ∷ bytes) all (suc i) = are_bytes bytes (and_parts (is_byte byte) (list_all is_byte bytes) all).1 i

read_fits : (bytes : List ℕ) (d : Descriptor) (read : Result Descriptor ℕ) → IsBytes bytes → described bytes ≡ read
    → result_ok read ≡ Some d → Fits d
read_fits bytes d (Ok x) fits e is =
    let some : Some x ≡ Some d = is in
    let same : x ≡ d = cc some in
    let can = can_be_written bytes d (is_described bytes d fits (e ∙ ap Ok same)) in
    record { writable = can.0; value = can.1 }
read_fits bytes d (Err place) fits e is = absurd cc

-- a descriptor that is given has a written form
pub given_fits : (bytes : List ℕ) (d : Descriptor) → descriptor_in bytes ≡ Some d → Fits d
given_fits bytes d e = by (list_all is_byte bytes) refl e
  where
    by : (b : Bool) → list_all is_byte bytes ≡ b → cond b (result_ok (described bytes)) None ≡ Some d → Fits d
    by true all is = read_fits bytes d (described bytes) (are_bytes bytes all) refl is
    by false some is = absurd cc

-- of real bytes it is what reading gives
pub given_is : (bytes : List ℕ) → IsBytes bytes → descriptor_in bytes ≡ result_ok (described bytes)
given_is bytes fits = ap (λ b. cond b (result_ok (described bytes)) None) (all_bytes bytes fits)

-- ## The descriptor of a service for which none was set

sid_value : (sid : Sid) → length sid.authority ≡ 6 → All (λ (part : ℕ). part < 2 ^ 32) sid.parts → IsSidValue sid
sid_value sid six small = record { authority = six; parts = small }

of_system : IsSidValue local_system
of_system = sid_value local_system refl (All-from_recursion (λ (part : ℕ). part < 2 ^ 32) (18 ∷ []) (omega arith, tt))

of_group : (group : ℕ) → group < 2 ^ 32 → IsSidValue (record { authority = 0 ∷ 0 ∷ 0 ∷ 0 ∷ 0 ∷ 5 ∷ []; parts = 32 ∷ group ∷ [] })
of_group group small = record {
  authority = refl;
  parts = All-from_recursion (λ (part : ℕ). part < 2 ^ 32) (32 ∷ group ∷ []) (omega arith, (small, tt));
}

abbrev default_list : List Ace
default_list = allow administrators 0xF81FF ∷ allow users 0x2008D ∷ []

default_size : size_of_aces default_list ≡ 48
unfolding size_of_aces
default_size = refl

pub default_fits : Fits default_descriptor
default_fits =
    let one : 1 ≤ 15 = omega arith in
    let two : 2 ≤ 15 = omega arith in
    record {
      writable = record {
        owner = one;
        group = one;
        list = record {
          short = All-from_recursion (λ (ace : Ace). IsShort ace.sid) default_list (two, (two, tt));
          size = omega (arith, default_size);
        };
      };
      value = record {
        owner = of_system;
        group = of_system;
        list = All-from_recursion IsAceValue default_list (
          record { flags = omega arith; mask = omega arith; sid = of_group 544 (omega arith) },
          (record { flags = omega arith; mask = omega arith; sid = of_group 545 (omega arith) }, tt),
        );
      };
    }

-- its written form is read as it
pub default_read : described (descriptor_bytes default_descriptor 7) ≡ Ok default_descriptor
default_read = read_back default_descriptor 7 default_fits.writable default_fits.value

-- no bytes stand for it
pub base_none : base [] ≡ default_descriptor
unfolding described header_in
base_none = refl

-- ## The descriptor that a service has

-- of one that fits, so do the parts that are asked for
part_fits : {A : Type 0} (P : A → Type 0) (b : Bool) (part : Option A) → IfSome part P → IfSome (part_if b part) P
part_fits P true part h = h
part_fits P false part h = tt

pub asked_fits : (d : Descriptor) (parts : ℕ) → Fits d → Fits (parts_asked d parts)
asked_fits d parts fits = record {
  writable = record {
    owner = part_fits IsShort (has_bits parts 1) d.owner fits.writable.owner;
    group = part_fits IsShort (has_bits parts 2) d.group fits.writable.group;
    list = part_fits IsWritableAcl (has_bits parts 4) d.list fits.writable.list;
  };
  value = record {
    owner = part_fits IsSidValue (has_bits parts 1) d.owner fits.value.owner;
    group = part_fits IsSidValue (has_bits parts 2) d.group fits.value.group;
    list = part_fits (All IsAceValue) (has_bits parts 4) d.list fits.value.list;
  };
}

base_is : (security : List ℕ) (d : Descriptor) → described security ≡ Ok d → base security ≡ d
base_is security d e = ap (λ (read : Result Descriptor ℕ). unwrap_or (result_ok read) default_descriptor) e

-- bytes that are kept are none, or are read as what they stand for
pub base_read : (security : List ℕ) → IsWritten security → (length security ≡ 0 → ⊥) → described security ≡ Ok (base security)
base_read security (inl none) some = absurd (some (ap length none))
base_read security (inr written) some =
    let read = ap described written.2 ∙ read_back written.0 written.1 written.3 written.4 in
    read ∙ ap Ok (sym (base_is security (parts_asked written.0 written.1) read))

pub base_fits : (security : List ℕ) → IsWritten security → Fits (base security)
base_fits security (inl none) = subst Fits (sym (ap base none ∙ base_none)) default_fits
base_fits security (inr written) =
    let read = ap described written.2 ∙ read_back written.0 written.1 written.3 written.4 in
    subst Fits (sym (base_is security (parts_asked written.0 written.1) read))
    (asked_fits written.0 written.1 (record { writable = written.3; value = written.4 }))

-- ## What is set

chosen_fits : {A : Type 0} (P : A → Type 0) (b : Bool) (x y : Option A) → IfSome x P → IfSome y P → IfSome (cond b x y) P
chosen_fits P true x y h k = h
chosen_fits P false x y h k = k

pub replaced_writable : (parts : ℕ) (old given : Descriptor) → IsWritable old → IsWritable given → IsWritable (replaced parts old given)
replaced_writable parts old given was is = record {
  owner = chosen_fits IsShort (has_bits parts 1) given.owner old.owner is.owner was.owner;
  group = chosen_fits IsShort (has_bits parts 2) given.group old.group is.group was.group;
  list = chosen_fits IsWritableAcl (has_bits parts 4) given.list old.list is.list was.list;
}

replaced_value : (parts : ℕ) (old given : Descriptor) → IsValue old → IsValue given → IsValue (replaced parts old given)
replaced_value parts old given was is = record {
  owner = chosen_fits IsSidValue (has_bits parts 1) given.owner old.owner is.owner was.owner;
  group = chosen_fits IsSidValue (has_bits parts 2) given.group old.group is.group was.group;
  list = chosen_fits (All IsAceValue) (has_bits parts 4) given.list old.list is.list was.list;
}

pub new_written : (parts : ℕ) (given : Descriptor) (security : List ℕ) → IsWritten security → Fits given
    → IsWritten (new_security parts given security)
new_written parts given security written fits =
    let old = base_fits security written in
    inr (
      replaced parts (base security) given,
      7,
      refl,
      replaced_writable parts (base security) given old.writable fits.writable,
      replaced_value parts (base security) given old.value fits.value,
    )

-- what is made of a service that is there, if a descriptor is given
pub made_written : (parts : ℕ) (bytes : List ℕ) (given : Option Descriptor) (row : Option Service) → descriptor_in bytes ≡ given
    → IfSome row IsSecured
    → IfSome (option_and_then (λ (d : Descriptor). option_map (new_security parts d) (option_map security_of row)) given) IsWritten
made_written parts bytes None row e secured = tt
made_written parts bytes (Some d) None e secured = tt
made_written parts bytes (Some d) (Some row) e secured = new_written parts d row.security secured (given_fits bytes d e)

-- ## The services

-- a service that is found has what all have
pub found_secured : (p : Service → Bool) (rows : List Service) → All IsSecured rows → IfSome (find p rows) IsSecured
found_secured p [] all = tt
found_secured p (row ∷ rows) all =
    elim (p row) as (λ b. IfSome (cond b (Some row) (find p rows)) IsSecured)
    [ true ↦ all zero row (omega arith) | false ↦ found_secured p rows (λ k d lt. all (suc k) d (omega (arith, lt))) ]

-- a change of each service that keeps its descriptor
pub secured_map : (change : Service → Service) → ((row : Service) → (change row).security ≡ row.security) → (rows : List Service)
    → All IsSecured rows → All IsSecured (map change rows)
secured_map change same rows old = All-map IsSecured change rows (λ k d lt. subst IsWritten (sym (same (get_or rows k d))) (old k d lt))

-- the services that a manager begins with have none
pub opened_secured : (first : ℕ) (configs : List Config) → All IsSecured (services_from first configs)
opened_secured first [] = All-nil IsSecured
opened_secured first (config ∷ configs) =
    All-cons IsSecured (new_service first config (new_status config.kind)) (services_from (first + 1) configs) (inl refl)
    (opened_secured (first + 1) configs)

-- what holds of a service that gets a descriptor and of one that stays as it is
pub secured_or : (P : Service → Type 0) (number : ℕ) (security : List ℕ) (row : Service) → P (record row { security = security }) → P row
    → P (secured_if number security row)
secured_or P number security row gets stays =
    elim (row.number == number) as (λ b. P (cond b (record row { security = security }) row)) [ true ↦ gets | false ↦ stays ]

pub all_secured : (number : ℕ) (security : List ℕ) (rows : List Service) → IsWritten security → All IsSecured rows
    → All IsSecured (map (secured_if number security) rows)
all_secured number security rows written old =
    All-map IsSecured (secured_if number security) rows
    (λ k d lt. secured_or IsSecured number security (get_or rows k d) written (old k d lt))

-- what a call sets is written
pub asked_written : (f : Flat) (caller handle parts : ℕ) (bytes : List ℕ) → All IsSecured f.services
    → IfSome (asked_security f caller handle parts (descriptor_in bytes)) IsWritten
asked_written f caller handle parts bytes all =
    made_written parts bytes (descriptor_in bytes) (held_service f caller handle) refl (held (opened f caller handle))
  where
    held : (of : Option Opened) → IfSome (option_and_then (λ (o : Opened). find (λ (row : Service). row.number == o.service) f.services) of)
        IsSecured
    held None = tt
    held (Some of) = found_secured (λ (row : Service). row.number == of.service) f.services all
