-- What becomes of the controls of a process.
use Rattle.std.specs.Prelude.{ℕ, ◌≡◌, ◌≤◌, ◌<◌, ◌+◌, ◌⊎◌, Bool, true, false, List, [], ◌∷◌, ◌++◌, length, Option, None, Some}
use Rattle.std.specs.List.{AllZip, flat_map}
use Rattle.std.specs.Io.KnownBytes.{Appends}
use mathlib.Core.List.{IsPrefix}
use Rattle.outside.specs.Causes.{Rose}
use Rattle.outside.specs.Written.{AppendsFront, Begins}
use Rattle.scm_model.specs.declared.flat.Order.{Order}
use Rattle.scm_model.specs.declared.steps.Answer.TheVariants as answers
use Rattle.scm_model.specs.declared.steps.Step.TheVariants.{ControlTaken}
use Rattle.scm_model.specs.Entries.{Entry}
use Rattle.scm_model.specs.Processes.{is_shared, process_of}
use Rattle.scm_model.specs.Rows.{service_of}
use Rattle.scm_rules.specs.Histories.{Legal, answer, state}
use Rattle.book_rule.specs.declared.view.Opening.{Opening}
use Rattle.book_rule.specs.Ways.{Has}
use Rattle.scm_book.specs.declared.fault.MakeFault.{MakeFault}
use Rattle.scm_book.specs.declared.fault.MakeFault.TheVariants as makes
use Rattle.scm_book.specs.Passes.{ClaimsIn, IsSame, Known, may_behind, room_behind}
use Rattle.scm_book.specs.Reporting.{name_in, waiting_behind}
use Rattle.child_link.specs.Lines.{order_text}
use Rattle.child_runner.specs.declared.sending.ControlsSent.{ControlsSent}
use Rattle.child_runner.specs.declared.sending.ControlsSent.TheVariants as sent

-- ## What is written

-- an order, whether its process is shared, and with code 0 the name of the service that is to start
pub record Handed : Type 0 where
  pub order : Order
  pub shared : Bool
  pub name : List ℕ

abbrev pub handed_of : Order → Bool → List ℕ → Handed
handed_of order shared name = record { order = order; shared = shared; name = name }

-- the line of an order
abbrev pub order_line : Handed → List ℕ
order_line handed = order_text handed.order handed.shared handed.name

-- the lines of orders, one after another
abbrev pub control_lines : List Handed → List ℕ
control_lines orders = flat_map order_line orders

-- the lines of all but the last control, and a front of its line
pub record LacksSome (orders : List Handed) (text : List ℕ) : Type 0 where
  pub whole : List Handed
  pub last : Handed
  pub front : List ℕ
  pub orders_are : orders ≡ whole ++ last ∷ []
  pub begins : Begins front (order_line last)
  pub text_is : text ≡ control_lines whole ++ front

-- the lines of all but the last control
pub record LacksLast (orders : List Handed) (text : List ℕ) : Type 0 where
  pub whole : List Handed
  pub last : Handed
  pub orders_are : orders ≡ whole ++ last ∷ []
  pub text_is : text ≡ control_lines whole

-- what is written of the lines of some controls, by how that ended
abbrev pub AreLines : ControlsSent → List Handed → List ℕ → Type 0
AreLines sent.WriteFault orders text = LacksSome orders text
AreLines sent.OutOfMemory orders text = (text ≡ control_lines orders) ⊎ LacksLast orders text
AreLines how orders text = text ≡ control_lines orders

-- the feed's count rose at a fault of writing, and is the same at each other end
abbrev pub FeedCause : ControlsSent → ℕ → ℕ → Type 0
FeedCause sent.WriteFault faults faults_now = (faults ≤ faults_now) × Rose faults faults_now
FeedCause how faults faults_now = faults_now ≡ faults

-- the line of one control was written, or why it wasn't
abbrev pub WritesLine : Handed → (held held_now : Option (List ℕ)) → (faults faults_now : ℕ) → Option ControlsSent → Type 0
WritesLine handed held held_now faults faults_now None = Appends held held_now (order_line handed) × (faults_now ≡ faults)
WritesLine handed held held_now faults faults_now (Some sent.WriteFault) =
    AppendsFront held held_now (order_line handed) × (faults ≤ faults_now) × Rose faults faults_now
WritesLine handed held held_now faults faults_now (Some sent.OutOfMemory) = (held_now ≡ held) × (faults_now ≡ faults)
WritesLine handed held held_now faults faults_now (Some how) = ⊥

-- what ends the sending if the step that takes an order isn't made
abbrev pub unsent : MakeFault → ControlsSent
unsent makes.Full = sent.Full
unsent makes.OutOfMemory = sent.OutOfMemory

-- ## What a pass takes

-- all own entries of a pass lie within what it has seen
abbrev pub IsBehindOwn : Known → Type 0
IsBehindOwn k = (place : ℕ) → Has place k.own → place < length k.seen

-- places one after another, from this one on
abbrev pub AreRisingFrom : ℕ → List ℕ → Type 0
AreRisingFrom least [] = Unit {0}
AreRisingFrom least (place ∷ places) = (least ≤ place) × AreRisingFrom (place + 1) places

module _ (tells : ℕ → Type 0) (o : Opening) (process : ℕ) where
  -- The entry at a place of a history took this order for the process, at a moment of the clock. In the state before it there was room for
  -- that, the process was shared or not as is said, and a service that is to start had this name.
  pub record TookAt (log : List Entry) (place : ℕ) (handed : Handed) : Type 0 where
    pub front : List Entry
    pub moment : ℕ
    pub rest : List Entry
    pub is : log ≡ front ++ (moment, ControlTaken process) ∷ rest
    pub at : place ≡ length front
    pub told : tells moment
    pub answered : answer o.limits o.first log place ≡ Some (answers.Control handed.order)
    pub room : room_behind o front (ControlTaken process) ≡ true
    pub shared : handed.shared ≡ is_shared (process_of (state o.limits o.first front) process)
    pub named : handed.order.code ≡ 0 → handed.name ≡ name_in (service_of (state o.limits o.first front) handed.order.service)

  -- the pass took these orders, one after another, after all that it had seen, and has no further own entry; if it is alone, no other pass
  -- made an entry
  pub record Takes (k : Known) (orders : List Handed) (k' : Known) : Type 0 where
    pub longer : IsPrefix k.seen k'.seen
    pub legal : Legal o.limits o.first k.seen → Legal o.limits o.first k'.seen
    pub places : List ℕ
    pub own : k'.own ≡ k.own ++ places
    pub rising : AreRisingFrom (length k.seen) places
    pub took : AllZip (TookAt k'.seen) places orders
    pub names : k'.names ≡ k.names
    pub caller : k'.caller ≡ k.caller
    pub claims : ClaimsIn o k.seen k → ClaimsIn o k'.seen k'
    pub alone : k.alone ≡ true → length k'.seen ≡ length k.seen + length orders
    pub same : IsSame k k'

  -- ## How it ends

  -- the limits have no room for the taking of a control, though one waits
  pub record IsFull (k : Known) : Type 0 where
    pub full : room_behind o k.seen (ControlTaken process) ≡ false
    pub moment : ℕ
    pub told : tells moment
    pub may : may_behind o k.seen moment (ControlTaken process) ≡ true

  -- why it ended, in the state of what the pass has then seen
  abbrev pub HasReason : Type 0 → ControlsSent → Known → Type 0
  HasReason may_ask sent.Over k = IsBehindOwn k × (waiting_behind o k.seen process ≡ None)
  HasReason may_ask sent.Full k = IsBehindOwn k × IsFull k
  HasReason may_ask sent.Shut k = may_ask
  HasReason may_ask how k = Unit {0}

  -- controls were taken and their lines written, until this ended it
  pub record Sends (may_ask : Type 0) (k : Known) (held held_now : Option (List ℕ)) (faults faults_now : ℕ) (how : ControlsSent)
      (k' : Known) : Type 0 where
    pub orders : List Handed
    pub takes : Takes k orders k'
    pub text : List ℕ
    pub lines : AreLines how orders text
    pub appended : Appends held held_now text
    pub reason : HasReason may_ask how k'
    pub cause : FeedCause how faults faults_now

  -- the same, and nothing ended it
  pub record GoesOn (k : Known) (held held_now : Option (List ℕ)) (faults faults_now : ℕ) (k' : Known) : Type 0 where
    pub orders : List Handed
    pub takes : Takes k orders k'
    pub appended : Appends held held_now (control_lines orders)
    pub kept : faults_now ≡ faults

  abbrev pub MayEnd : (may_ask : Type 0) → Known → (held held_now : Option (List ℕ)) → (faults faults_now : ℕ) → Option ControlsSent → Known
      → Type 0
  MayEnd may_ask k held held_now faults faults_now None k' = GoesOn k held held_now faults faults_now k'
  MayEnd may_ask k held held_now faults faults_now (Some how) k' = Sends may_ask k held held_now faults faults_now how k'
