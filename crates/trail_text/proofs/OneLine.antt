-- No line feed stands in the lines of a history, and a text is split into such lines in one way.
use Rattle.std.proofs.Common.{ℕ, zero, suc, ◌≡◌, ◌+◌, ◌/◌, ◌%◌, ◌==◌, Bool, true, false, cond, List, [], ◌∷◌, ◌++◌, map, refl, sym, ap, ◌∙◌}
use Rattle.std.proofs.Common.{subst, arith, append-nil, append_assoc}
use Rattle.std.specs.Prelude.{◌||◌, codes, decimal, nat_lt, slice_index}
use Rattle.std.specs.Fmt.{digits, digits_onto, digit_glyph}
use Rattle.std.specs.List.{All, AllByRecursion, list_any}
use Rattle.std.proofs.lemmas.Bool.{ne_eqb}
use Rattle.std.proofs.lemmas.List.Elements.{All-append, All-cons, All-nil}
use Rattle.std.proofs.lemmas.List.Splits.{slice_split_at, slice_split_none}
use Rattle.hex.specs.Hex.{encode_lower, encode_with, lower_digits}
use Rattle.scm_model.specs.declared.flat.Config.{Config}
use Rattle.scm_model.specs.declared.flat.Flat.{Flat}
use Rattle.scm_model.specs.declared.flat.Limits.{Limits}
use Rattle.scm_model.specs.declared.flat.Order.{Order}
use Rattle.scm_model.specs.declared.flat.Principal.{Principal}
use Rattle.scm_model.specs.declared.flat.Principal.TheVariants.{Admin, User}
use Rattle.scm_model.specs.declared.steps.Answer.{Answer}
use Rattle.scm_model.specs.declared.steps.Answer.TheVariants as answers
use Rattle.scm_model.specs.declared.steps.Kept.{Kept}
use Rattle.scm_model.specs.declared.steps.Kept.TheVariants as appended
use Rattle.scm_model.specs.declared.steps.Step.{Step}
use Rattle.scm_model.specs.declared.steps.Step.TheVariants.{Joined, Call, EndStart, LaunchTaken, Launched, LaunchFailed, Report, Ended}
use Rattle.scm_model.specs.declared.steps.Step.TheVariants.{ControlTaken, Tick, Raised, Gone, NoMemory}
use Rattle.scm_model.specs.Entries.{Entry}
use Rattle.scm_model.specs.Opnums.{opnum}
use Rattle.scm_model.specs.Statuses.{status_numbers}
use Rattle.scm_rules.specs.Steps.{step_of}
use Rattle.scm_lines.specs.Answers.{order_text, told_text}
use Rattle.scm_lines.specs.Entries.{call_verb, line_of, numbered, principal_word, reporter, spaced, step_words}
use Rattle.service_record.specs.Spelling.{encoding}
use Rattle.scm_replay.specs.Outcomes.{is_shared_by}
use Rattle.scm_replay.specs.Replay.{IsOneLine, lines_of}
use Rattle.opening_lines.specs.declared.opening.Opening.{Opening}
use Rattle.opening_lines.specs.Heads.{config_line, group_line, head_lines, limit_numbers, limits_line, moment_line}
use Rattle.trail_text.specs.Histories.{answer_line, answer_text, ended, entry_lines, first_of, told_lines}
use Rattle.trail_text.proofs.Lists.{last_same}

-- ## Bytes

abbrev IsNoFeed : ℕ → Type 0
IsNoFeed b = (b == 10) ≡ false

pub nothing_clean : IsOneLine []
nothing_clean = All-nil IsNoFeed

joined_clean : (front rest : List ℕ) → IsOneLine front → IsOneLine rest → IsOneLine (front ++ rest)
joined_clean = All-append IsNoFeed

neither : (a b : Bool) → (a || b) ≡ false → (a ≡ false) × (b ≡ false)
neither true b e = absurd cc
neither false b e = (refl, e)

-- a literal text is clean if each of its bytes computes so
literal_clean : (bytes : List ℕ) → list_any (λ b. b == 10) bytes ≡ false → IsOneLine bytes
literal_clean [] e = nothing_clean
literal_clean (b ∷ bytes) e =
    let parts = neither (b == 10) _ e in All-cons IsNoFeed b bytes parts.0 (literal_clean bytes parts.1)

-- ## Numbers

glyph_clean : (low : Bool) (d : ℕ) → IsNoFeed (cond low (48 + d) (87 + d))
glyph_clean true d = ne_eqb (48 + d) 10 (λ e. omega (arith, e))
glyph_clean false d = ne_eqb (87 + d) 10 (λ e. omega (arith, e))

either_clean : (b : Bool) (xs ys : List ℕ) → IsOneLine xs → IsOneLine ys → IsOneLine (cond b xs ys)
either_clean true xs ys p q = p
either_clean false xs ys p q = q

digits_clean : (k n : ℕ) (more : List ℕ) → IsOneLine more → IsOneLine (digits_onto k 10 false n more)
digits_clean zero n more clean = clean
digits_clean (suc k) n more clean =
    let one = All-cons IsNoFeed (digit_glyph false (n % 10)) more (glyph_clean (nat_lt (n % 10) 10) (n % 10)) clean in
    either_clean (n / 10 == 0) _ _ one (digits_clean k (n / 10) (digit_glyph false (n % 10) ∷ more) one)

decimal_clean : (n : ℕ) → IsOneLine (decimal n)
unfolding digits
decimal_clean n = digits_clean 64 n [] nothing_clean

decimals_clean : (ns : List ℕ) → AllByRecursion IsOneLine (map decimal ns)
decimals_clean [] = tt
decimals_clean (n ∷ ns) = (decimal_clean n, decimals_clean ns)

-- what stands at any place of a clean list, and 0 past its end
place_clean : (bytes : List ℕ) → list_any (λ b. b == 10) bytes ≡ false → (i : ℕ) → IsNoFeed (slice_index bytes i)
place_clean [] e i = refl
place_clean (b ∷ bytes) e zero = (neither (b == 10) _ e).0
place_clean (b ∷ bytes) e (suc i) = place_clean bytes (neither (b == 10) _ e).1 i

hex_clean : (bytes : List ℕ) → IsOneLine (encode_lower bytes)
unfolding encode_with
hex_clean [] = nothing_clean
hex_clean (b ∷ bytes) =
    All-cons IsNoFeed (slice_index lower_digits (b / 16)) (slice_index lower_digits (b % 16) ∷ encode_lower bytes)
    (place_clean lower_digits refl (b / 16))
    (All-cons IsNoFeed (slice_index lower_digits (b % 16)) (encode_lower bytes) (place_clean lower_digits refl (b % 16)) (hex_clean bytes))

-- ## Words

all_joined : (xs ys : List (List ℕ)) → AllByRecursion IsOneLine xs → AllByRecursion IsOneLine ys → AllByRecursion IsOneLine (xs ++ ys)
all_joined [] ys p q = q
all_joined (x ∷ xs) ys p q = (p.0, all_joined xs ys p.1 q)

spaced_clean : (words : List (List ℕ)) → AllByRecursion IsOneLine words → IsOneLine (spaced words)
spaced_clean [] all = nothing_clean
spaced_clean (word ∷ words) all =
    joined_clean (32 ∷ word) (spaced words) (All-cons IsNoFeed 32 word refl all.0) (spaced_clean words all.1)

numbered_clean : (verb numbers : List ℕ) → IsOneLine verb → AllByRecursion IsOneLine (numbered verb numbers)
numbered_clean verb numbers clean = (clean, decimals_clean numbers)

principal_clean : (by : Principal) → IsOneLine (principal_word by)
principal_clean Admin = literal_clean (codes "admin") refl
principal_clean User = literal_clean (codes "user") refl

verb_clean : (append : Kept) → IsOneLine (call_verb append)
verb_clean appended.Failed = literal_clean (codes "failcall") refl
verb_clean appended.Kept = literal_clean (codes "call") refl
verb_clean appended.NotAsked = literal_clean (codes "call") refl

words_clean : (step : Step) → AllByRecursion IsOneLine (step_words step)
words_clean (Joined by) = (literal_clean (codes "join") refl, (principal_clean by, tt))
words_clean (Call caller asked append) =
    (verb_clean append, (decimal_clean caller, (decimal_clean (opnum asked), (hex_clean _, tt))))
words_clean (EndStart caller plan) = numbered_clean (codes "end") (caller ∷ plan ∷ []) (literal_clean (codes "end") refl)
words_clean LaunchTaken = numbered_clean (codes "take") [] (literal_clean (codes "take") refl)
words_clean (Launched process pid) = numbered_clean (codes "launched") (process ∷ pid ∷ []) (literal_clean (codes "launched") refl)
words_clean (LaunchFailed process code) =
    numbered_clean (codes "unlaunched") (process ∷ code ∷ []) (literal_clean (codes "unlaunched") refl)
words_clean (Report process service status) =
    all_joined (numbered (codes "report") (reporter process service)) (map decimal (status_numbers status))
    (numbered_clean (codes "report") (reporter process service) (literal_clean (codes "report") refl))
    (decimals_clean (status_numbers status))
words_clean (Ended process) = numbered_clean (codes "ended") (process ∷ []) (literal_clean (codes "ended") refl)
words_clean (ControlTaken process) = numbered_clean (codes "control") (process ∷ []) (literal_clean (codes "control") refl)
words_clean Tick = numbered_clean (codes "tick") [] (literal_clean (codes "tick") refl)
words_clean (Raised caller subtype) =
    (literal_clean (codes "raise") refl, (decimal_clean caller, (hex_clean subtype, tt)))
words_clean (Gone caller) = numbered_clean (codes "gone") (caller ∷ []) (literal_clean (codes "gone") refl)
words_clean (NoMemory caller) = numbered_clean (codes "nomem") (caller ∷ []) (literal_clean (codes "nomem") refl)

-- ## Lines

entry_clean : (e : Entry) → IsOneLine (line_of e)
entry_clean e =
    joined_clean (decimal e.0) (spaced (step_words e.1)) (decimal_clean e.0) (spaced_clean (step_words e.1) (words_clean e.1))

order_clean : (order : Order) (shared : Bool) → IsOneLine (order_text order shared)
order_clean order true =
    joined_clean (codes "control ") (decimal order.service ++ 32 ∷ decimal order.code) (literal_clean (codes "control ") refl)
    (joined_clean (decimal order.service) (32 ∷ decimal order.code) (decimal_clean order.service)
    (All-cons IsNoFeed 32 (decimal order.code) refl (decimal_clean order.code)))
order_clean order false =
    joined_clean (codes "control ") (decimal order.code) (literal_clean (codes "control ") refl) (decimal_clean order.code)

number_clean : (front : List ℕ) (n : ℕ) → IsOneLine front → IsOneLine (front ++ decimal n)
number_clean front n clean = joined_clean front (decimal n) clean (decimal_clean n)

answer_clean : (f : Flat) (step : Step) (answer : Answer) → IsOneLine (answer_text f step answer)
answer_clean f step (answers.Caller number) = number_clean (codes "caller ") number (literal_clean (codes "caller ") refl)
answer_clean f step (answers.Reply reply) =
    joined_clean (codes "reply ") _ (literal_clean (codes "reply ") refl) (hex_clean _)
answer_clean f step (answers.Begun plan) = number_clean (codes "plan ") plan (literal_clean (codes "plan ") refl)
answer_clean f step (answers.Launch process) = number_clean (codes "launch ") process (literal_clean (codes "launch ") refl)
answer_clean f step (answers.Control order) = order_clean order (is_shared_by f step)
answer_clean f step (answers.Refused code) = number_clean (codes "refused ") code (literal_clean (codes "refused ") refl)
answer_clean f step answers.Stale = literal_clean (codes "stale") refl
answer_clean f step answers.Done = literal_clean (codes "done") refl

answered_clean : (l : Limits) (f : Flat) (e : Entry) → IsOneLine (answer_line l f e)
answered_clean l f e =
    let answer = (step_of l f e.0 e.1).answer in
    joined_clean (codes "= ") (answer_text f e.1 answer) (literal_clean (codes "= ") refl) (answer_clean f e.1 answer)

entries_clean : (l : Limits) (f : Flat) (es : List Entry) → AllByRecursion IsOneLine (entry_lines l f es)
entries_clean l f [] = tt
entries_clean l f (e ∷ es) = (entry_clean e, (answered_clean l f e, entries_clean l (step_of l f e.0 e.1).flat es))

-- a name and words of the opening
named_clean : (name : List ℕ) (words : List (List ℕ)) → IsOneLine name → AllByRecursion IsOneLine words
    → IsOneLine (name ++ spaced words)
named_clean name words clean all = joined_clean name (spaced words) clean (spaced_clean words all)

hex_named : (name bytes : List ℕ) → IsOneLine name → IsOneLine (name ++ spaced (encode_lower bytes ∷ []))
hex_named name bytes clean = named_clean name (encode_lower bytes ∷ []) clean (hex_clean bytes, tt)

groups_clean : (groups : List (List ℕ)) → AllByRecursion IsOneLine (map group_line groups)
groups_clean [] = tt
groups_clean (group ∷ groups) = (hex_named (codes "group") _ (literal_clean (codes "group") refl), groups_clean groups)

configs_clean : (configs : List Config) → AllByRecursion IsOneLine (map config_line configs)
configs_clean [] = tt
configs_clean (config ∷ configs) =
    (hex_named (codes "config") (encoding config) (literal_clean (codes "config") refl), configs_clean configs)

head_clean : (o : Opening) → AllByRecursion IsOneLine (head_lines o)
head_clean o = (
  named_clean (codes "limits") (map decimal (limit_numbers o.limits)) (literal_clean (codes "limits") refl)
      (decimals_clean (limit_numbers o.limits)),
  (
    named_clean (codes "moment") (decimal o.moment ∷ []) (literal_clean (codes "moment") refl) (decimal_clean o.moment, tt),
    all_joined (map group_line o.groups) (map config_line o.configs) (groups_clean o.groups) (configs_clean o.configs),
  ),
)

-- no line feed stands in a line of a history
pub lines_clean : (o : Opening) (h : List Entry) → AllByRecursion IsOneLine (told_lines o h)
lines_clean o h = all_joined (head_lines o) (entry_lines o.limits (first_of o) h) (head_clean o) (entries_clean o.limits (first_of o) h)

pub front_clean : (front rest : List (List ℕ)) → AllByRecursion IsOneLine (front ++ rest) → AllByRecursion IsOneLine front
front_clean [] rest all = tt
front_clean (line ∷ front) rest all = (all.0, front_clean front rest all.1)

-- ## Splitting

split_again : (lines : List (List ℕ)) (rest : List ℕ) → AllByRecursion IsOneLine lines → IsOneLine rest
    → lines_of (ended lines ++ rest) ≡ lines ++ rest ∷ []
split_again [] rest all clean = slice_split_none (λ b. b == 10) rest clean
split_again (line ∷ lines) rest all clean =
    ap lines_of (append_assoc (line ++ 10 ∷ []) (ended lines) rest ∙ append_assoc line (10 ∷ []) (ended lines ++ rest))
    ∙ slice_split_at (λ b. b == 10) line 10 (ended lines ++ rest) all.0 refl
    ∙ ap (λ more. line ∷ more) (split_again lines rest all.1 clean)

-- bytes are split in one way into lines and a rest without line feeds
pub one_split : (lines others : List (List ℕ)) (rest other : List ℕ) → AllByRecursion IsOneLine lines → AllByRecursion IsOneLine others
    → IsOneLine rest → IsOneLine other → ended lines ++ rest ≡ ended others ++ other → (lines ≡ others) × (rest ≡ other)
one_split lines others rest other p q clean unbroken is =
    last_same lines others rest other (sym (split_again lines rest p clean) ∙ ap lines_of is ∙ split_again others other q unbroken)
