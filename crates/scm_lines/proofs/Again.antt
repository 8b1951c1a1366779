-- The line of an entry is read as what it says.
use Rattle.std.proofs.Common.{ℕ, ◌≡◌, ◌<◌, ◌^◌, ◌==◌, Bool, true, false, cond, List, [], ◌∷◌, ◌++◌, map, Option, Some}
use Rattle.std.proofs.Common.{refl, sym, ap, ◌∙◌, arith}
use Rattle.std.specs.Prelude.{codes, decimal, option_map}
use Rattle.std.specs.List.{AllByRecursion}
use Rattle.std.proofs.lemmas.Bool.{eqb-true}
use Rattle.hex.specs.Hex.{encode_lower}
use Rattle.decimal_words.specs.Numbers.{decimal_number, number_below}
use Rattle.scm_model.specs.declared.flat.Principal.TheVariants.{Admin, User}
use Rattle.scm_model.specs.declared.flat.Status.{Status}
use Rattle.scm_model.specs.declared.calls.Request.{Request}
use Rattle.scm_model.specs.declared.steps.Kept.TheVariants as appended
use Rattle.scm_model.specs.declared.steps.Step.{Step}
use Rattle.scm_model.specs.declared.steps.Step.TheVariants.{Joined, Call, EndStart, LaunchTaken, Launched, LaunchFailed, Report, Ended}
use Rattle.scm_model.specs.declared.steps.Step.TheVariants.{ControlTaken, Tick, Raised, Gone, NoMemory}
use Rattle.scm_model.specs.Entries.{Entry}
use Rattle.scm_model.specs.Opnums.{opnum}
use Rattle.scm_model.specs.Statuses.{status_numbers}
use Rattle.scm_bodies.specs.Requests.{request_bytes}
use Rattle.scm_lines.specs.declared.verb.Verb.{Verb}
use Rattle.scm_lines.specs.declared.verb.Verb.TheVariants as verb
use Rattle.scm_lines.specs.Verbs.{fails_by, verb_at}
use Rattle.scm_lines.specs.Entries.{HasLine, HasWords, line_of, reporter, said, spaced}
use Rattle.scm_lines.specs.Lines.{call_in_words, end_at, joined_at, launched_at, line_at, line_in, line_in_words, raise_in_words}
use Rattle.scm_lines.specs.Lines.{report_at, report_in_words, status_at, status_in_words, step_at, unlaunched_at}
use Rattle.scm_lines.proofs.Spaced.{IsWord, below_again, decimal_word, hex_again, hex_word, number_again, word_of, words_again}
use Rattle.scm_lines.proofs.Asked.{asked_again, opnum_small, raised_again}

-- ## Whole lines

-- the words of a line, without spaces, that say a step at a moment
record Says (m : ℕ) (name : List ℕ) (words : List (List ℕ)) (v : Verb) (step : Step) : Type 0 where
  clean : AllByRecursion IsWord words
  word : IsWord name
  named : verb_at name ≡ Some v
  read : step_at v words ≡ Some step

words_said : (m : ℕ) (name : List ℕ) (words : List (List ℕ)) (v : Verb) (step : Step) → m < 2 ^ 64 → verb_at name ≡ Some v
    → step_at v words ≡ Some step
    → line_in_words (decimal m) name words ≡ Some (record { moment = m; step = step; fails = fails_by v })
unfolding line_in_words
words_said m name words v step small named read = rw (number_again m small, named, read) refl

line_said : (m : ℕ) (name : List ℕ) (words : List (List ℕ)) (v : Verb) (step : Step) → m < 2 ^ 64 → Says m name words v step
    → line_at (decimal m ++ spaced (name ∷ words)) ≡ Some (record { moment = m; step = step; fails = fails_by v })
line_said m name words v step small says =
    ap line_in (words_again (decimal m) (name ∷ words) (decimal_word m small) (says.word, says.clean))
    ∙ words_said m name words v step small says.named says.read

-- ## Verbs

verb_join : verb_at (codes "join") ≡ Some verb.Join
unfolding verb_at
verb_join = refl

verb_call : verb_at (codes "call") ≡ Some verb.Call
unfolding verb_at
verb_call = refl

verb_failcall : verb_at (codes "failcall") ≡ Some verb.FailCall
unfolding verb_at
verb_failcall = refl

verb_end : verb_at (codes "end") ≡ Some verb.End
unfolding verb_at
verb_end = refl

verb_take : verb_at (codes "take") ≡ Some verb.Take
unfolding verb_at
verb_take = refl

verb_launched : verb_at (codes "launched") ≡ Some verb.Launched
unfolding verb_at
verb_launched = refl

verb_unlaunched : verb_at (codes "unlaunched") ≡ Some verb.Unlaunched
unfolding verb_at
verb_unlaunched = refl

verb_report : verb_at (codes "report") ≡ Some verb.Report
unfolding verb_at
verb_report = refl

verb_ended : verb_at (codes "ended") ≡ Some verb.Ended
unfolding verb_at
verb_ended = refl

verb_control : verb_at (codes "control") ≡ Some verb.Control
unfolding verb_at
verb_control = refl

verb_tick : verb_at (codes "tick") ≡ Some verb.Tick
unfolding verb_at
verb_tick = refl

verb_raise : verb_at (codes "raise") ≡ Some verb.Raise
unfolding verb_at
verb_raise = refl

verb_gone : verb_at (codes "gone") ≡ Some verb.Gone
unfolding verb_at
verb_gone = refl

verb_nomem : verb_at (codes "nomem") ≡ Some verb.NoMemory
unfolding verb_at
verb_nomem = refl

-- ## Numbers after a verb

wide : (n : ℕ) → n < 2 ^ 32 → n < 2 ^ 64
wide n low = omega (arith, low)

code_again : (n : ℕ) → n < 2 ^ 32 → number_below (2 ^ 32) (decimal n) ≡ Some n
code_again n low = below_again (2 ^ 32) n low (wide n low)

number_words : (a : ℕ) → a < 2 ^ 64 → AllByRecursion IsWord (decimal a ∷ [])
number_words a h = (decimal_word a h, tt)

numbers_words : (a b : ℕ) → a < 2 ^ 64 → b < 2 ^ 64 → AllByRecursion IsWord (decimal a ∷ decimal b ∷ [])
numbers_words a b h k = (decimal_word a h, (decimal_word b k, tt))

join_admin : joined_at (codes "admin") ≡ Some (Joined Admin)
unfolding joined_at
join_admin = refl

join_user : joined_at (codes "user") ≡ Some (Joined User)
unfolding joined_at
join_user = refl

end_again : (caller plan : ℕ) → caller < 2 ^ 64 → plan < 2 ^ 64 → end_at (decimal caller) (decimal plan) ≡ Some (EndStart caller plan)
unfolding end_at
end_again caller plan h k = rw (number_again caller h, number_again plan k) refl

launched_again : (process pid : ℕ) → process < 2 ^ 64 → pid < 2 ^ 32
    → launched_at (decimal process) (decimal pid) ≡ Some (Launched process pid)
unfolding launched_at
launched_again process pid h k = rw (number_again process h, code_again pid k) refl

unlaunched_again : (process code : ℕ) → process < 2 ^ 64 → code < 2 ^ 32
    → unlaunched_at (decimal process) (decimal code) ≡ Some (LaunchFailed process code)
unfolding unlaunched_at
unlaunched_again process code h k = rw (number_again process h, code_again code k) refl

-- ## Reports

abbrev AreCodes : Status → Type 0
AreCodes s = AllByRecursion (λ n. n < 2 ^ 32) (status_numbers s)

status_again : (s : Status) → AreCodes s → status_in_words (map decimal (status_numbers s)) ≡ Some s
unfolding status_at
status_again s h =
    rw (
      code_again s.kind h.0,
      code_again s.state h.1.0,
      code_again s.accepted h.1.1.0,
      code_again s.win32 h.1.1.1.0,
      code_again s.specific h.1.1.1.1.0,
      code_again s.checkpoint h.1.1.1.1.1.0,
      code_again s.hint h.1.1.1.1.1.1.0,
    ) refl

codes_words : (ns : List ℕ) → AllByRecursion (λ n. n < 2 ^ 32) ns → AllByRecursion IsWord (map decimal ns)
codes_words [] h = tt
codes_words (n ∷ ns) h = (decimal_word n (wide n h.0), codes_words ns h.1)

report_by : (process service : ℕ) (s : Status) (named : Option ℕ) → process < 2 ^ 64
    → AreCodes s → named ≡ Some service
    → report_at (decimal process) named (status_in_words (map decimal (status_numbers s))) ≡ Some (Report process service s)
unfolding report_at
report_by process service s named h k e = rw (number_again process h, e, status_again s k) refl

-- the words of a report, by whether its service is 0
report_clean : (process service : ℕ) (s : Status) (is : Bool) → process < 2 ^ 64 → service < 2 ^ 64
    → AreCodes s → AllByRecursion IsWord (map decimal (cond is (process ∷ []) (process ∷ service ∷ [])) ++ map decimal (status_numbers s))
report_clean process service s true h k codes = (decimal_word process h, codes_words (status_numbers s) codes)
report_clean process service s false h k codes =
    (decimal_word process h, (decimal_word service k, codes_words (status_numbers s) codes))

report_again : (process service : ℕ) (s : Status) (is : Bool) → (service == 0) ≡ is → process < 2 ^ 64 → service < 2 ^ 64
    → AreCodes s
    → report_in_words (map decimal (cond is (process ∷ []) (process ∷ service ∷ [])) ++ map decimal (status_numbers s))
    ≡ Some (Report process service s)
report_again process service s true e h k codes =
    report_by process service s (Some 0) h codes (ap (λ n. Some n) (sym (eqb-true service 0 e)))
report_again process service s false e h k codes =
    report_by process service s (decimal_number (decimal service)) h codes (number_again service k)

-- ## Calls and raises

call_again : (caller : ℕ) (asked : Request) → HasWords (Call caller asked appended.NotAsked)
    → call_in_words (decimal caller) (decimal (opnum asked)) (encode_lower (request_bytes asked))
    ≡ Some (Call caller asked appended.NotAsked)
unfolding call_in_words
call_again caller asked h =
    rw (
      number_again caller h.0,
      below_again (2 ^ 16) (opnum asked) (opnum_small asked) (omega (arith, opnum_small asked)),
      hex_again (request_bytes asked) h.3,
      asked_again asked h.1 h.2,
    ) refl

-- the words after the verb of a call
abbrev words_of_call : ℕ → Request → List (List ℕ)
words_of_call caller asked = decimal caller ∷ decimal (opnum asked) ∷ encode_lower (request_bytes asked) ∷ []

call_words : (caller : ℕ) (asked : Request) → caller < 2 ^ 64 → AllByRecursion IsWord (words_of_call caller asked)
call_words caller asked h = (
  decimal_word caller h,
  (decimal_word (opnum asked) (omega (arith, opnum_small asked)), (hex_word (request_bytes asked), tt)),
)

raise_words : (caller : ℕ) (subtype : List ℕ) → caller < 2 ^ 64 → AllByRecursion IsWord (decimal caller ∷ encode_lower subtype ∷ [])
raise_words caller subtype h = (decimal_word caller h, (hex_word subtype, tt))

raise_again : (caller : ℕ) (subtype : List ℕ) → HasWords (Raised caller subtype)
    → raise_in_words (decimal caller) (encode_lower subtype) ≡ Some (Raised caller subtype)
unfolding raise_in_words
raise_again caller subtype h = rw (number_again caller h.0, hex_again subtype h.2, raised_again subtype h.1) refl

-- ## Every verb

step_again : (m : ℕ) (step : Step) → m < 2 ^ 64 → HasWords step → line_at (line_of (m, step)) ≡ Some (said (m, step))
step_again m (Joined Admin) small h =
    line_said m (codes "join") (codes "admin" ∷ []) verb.Join (Joined Admin) small
    (record { clean = (word_of (codes "admin") refl, tt); word = word_of (codes "join") refl; named = verb_join; read = join_admin })
step_again m (Joined User) small h =
    line_said m (codes "join") (codes "user" ∷ []) verb.Join (Joined User) small
    (record { clean = (word_of (codes "user") refl, tt); word = word_of (codes "join") refl; named = verb_join; read = join_user })
step_again m (Call caller asked appended.Failed) small h =
    line_said m (codes "failcall") (words_of_call caller asked) verb.FailCall (Call caller asked appended.NotAsked) small
    (record {
      clean = call_words caller asked h.0;
      word = word_of (codes "failcall") refl;
      named = verb_failcall;
      read = call_again caller asked h;
    })
step_again m (Call caller asked appended.NotAsked) small h =
    line_said m (codes "call") (words_of_call caller asked) verb.Call (Call caller asked appended.NotAsked) small
    (record {
      clean = call_words caller asked h.0;
      word = word_of (codes "call") refl;
      named = verb_call;
      read = call_again caller asked h;
    })
step_again m (Call caller asked appended.Kept) small h =
    line_said m (codes "call") (words_of_call caller asked) verb.Call (Call caller asked appended.NotAsked) small
    (record {
      clean = call_words caller asked h.0;
      word = word_of (codes "call") refl;
      named = verb_call;
      read = call_again caller asked h;
    })
step_again m (EndStart caller plan) small h =
    line_said m (codes "end") (decimal caller ∷ decimal plan ∷ []) verb.End (EndStart caller plan) small
    (record {
      clean = numbers_words caller plan h.0 h.1;
      word = word_of (codes "end") refl;
      named = verb_end;
      read = end_again caller plan h.0 h.1;
    })
step_again m LaunchTaken small h =
    line_said m (codes "take") [] verb.Take LaunchTaken small
    (record { clean = tt; word = word_of (codes "take") refl; named = verb_take; read = refl })
step_again m (Launched process pid) small h =
    line_said m (codes "launched") (decimal process ∷ decimal pid ∷ []) verb.Launched (Launched process pid) small
    (record {
      clean = numbers_words process pid h.0 (wide pid h.1);
      word = word_of (codes "launched") refl;
      named = verb_launched;
      read = launched_again process pid h.0 h.1;
    })
step_again m (LaunchFailed process code) small h =
    line_said m (codes "unlaunched") (decimal process ∷ decimal code ∷ []) verb.Unlaunched (LaunchFailed process code) small
    (record {
      clean = numbers_words process code h.0 (wide code h.1);
      word = word_of (codes "unlaunched") refl;
      named = verb_unlaunched;
      read = unlaunched_again process code h.0 h.1;
    })
step_again m (Report process service status) small h =
    let words = map decimal (reporter process service) ++ map decimal (status_numbers status) in
    line_said m (codes "report") words verb.Report (Report process service status) small
    (record {
      clean = report_clean process service status (service == 0) h.0 h.1 h.2;
      word = word_of (codes "report") refl;
      named = verb_report;
      read = report_again process service status (service == 0) refl h.0 h.1 h.2;
    })
step_again m (Ended process) small h =
    line_said m (codes "ended") (decimal process ∷ []) verb.Ended (Ended process) small
    (record {
      clean = number_words process h;
      word = word_of (codes "ended") refl;
      named = verb_ended;
      read = ap (option_map Ended) (number_again process h);
    })
step_again m (ControlTaken process) small h =
    line_said m (codes "control") (decimal process ∷ []) verb.Control (ControlTaken process) small
    (record {
      clean = number_words process h;
      word = word_of (codes "control") refl;
      named = verb_control;
      read = ap (option_map ControlTaken) (number_again process h);
    })
step_again m Tick small h =
    line_said m (codes "tick") [] verb.Tick Tick small
    (record { clean = tt; word = word_of (codes "tick") refl; named = verb_tick; read = refl })
step_again m (Raised caller subtype) small h =
    line_said m (codes "raise") (decimal caller ∷ encode_lower subtype ∷ []) verb.Raise (Raised caller subtype) small
    (record {
      clean = raise_words caller subtype h.0;
      word = word_of (codes "raise") refl;
      named = verb_raise;
      read = raise_again caller subtype h;
    })
step_again m (Gone caller) small h =
    line_said m (codes "gone") (decimal caller ∷ []) verb.Gone (Gone caller) small
    (record {
      clean = number_words caller h;
      word = word_of (codes "gone") refl;
      named = verb_gone;
      read = ap (option_map Gone) (number_again caller h);
    })
step_again m (NoMemory caller) small h =
    line_said m (codes "nomem") (decimal caller ∷ []) verb.NoMemory (NoMemory caller) small
    (record {
      clean = number_words caller h;
      word = word_of (codes "nomem") refl;
      named = verb_nomem;
      read = ap (option_map NoMemory) (number_again caller h);
    })

-- what the line of an entry says is read of it
pub read_again : (entry : Entry) → HasLine entry → line_at (line_of entry) ≡ Some (said entry)
read_again entry h = step_again entry.0 entry.1 h.0 h.1
