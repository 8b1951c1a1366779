-- The places that reports and an end add to a pass's own.
use Rattle.std.proofs.Common.{ℕ, zero, suc, ◌≡◌, ◌∙◌, List, [], ◌∷◌, ◌++◌, length, Some, inl, inr, refl, sym, ap, subst, append_assoc}
use Rattle.std.proofs.Common.{append-nil}
use Rattle.std.specs.Prelude.{slice_get}
use Rattle.std.proofs.lemmas.List.Elements.{All-cons, All-nil}
use mathlib.Core.List.{IsPrefix}
use Rattle.child_link.specs.declared.lines.Reported.{Reported}
use Rattle.child_link.specs.Lines.{report_step}
use Rattle.scm_model.specs.declared.steps.Answer.{Answer}
use Rattle.scm_model.specs.declared.steps.Step.{Step}
use Rattle.scm_model.specs.declared.steps.Step.TheVariants.{Ended}
use Rattle.scm_model.specs.Entries.{Entry}
use Rattle.book_rule.specs.declared.view.Opening.{Opening}
use Rattle.book_rule.proofs.Prefixes.{prefix_self, prefix_snoc, prefix_trans}
use Rattle.scm_book.specs.declared.processes.EndedEnd.{EndedEnd}
use Rattle.scm_book.specs.declared.processes.EndedEnd.TheVariants as ends
use Rattle.scm_book.specs.Passes.{Known, Learnt, Made}
use Rattle.scm_book.specs.Processes.{EndedSo, told_of_end}
use Rattle.child_runner.specs.declared.served.ChildServed.{ChildServed}
use Rattle.child_runner.specs.declared.served.ChildServed.TheVariants as served
use Rattle.child_runner.specs.Reports.{Chain, IsReported}
use Rattle.child_runner.specs.Serving.{AreReports, HasReported, PassLeft, EntriesStandAt}

-- ## Places

last_there : (log : List Entry) (e : Entry) → slice_get (log ++ e ∷ []) (length log) ≡ Some e
last_there [] e = refl
last_there (x ∷ log) e = last_there log e

there_still : (log more : List Entry) (place : ℕ) (e : Entry) → slice_get log place ≡ Some e → slice_get (log ++ more) place ≡ Some e
there_still [] more place e is = absurd cc
there_still (x ∷ log) more zero e is = is
there_still (x ∷ log) more (suc place) e is = there_still log more place e is

there_behind : (log longer : List Entry) (place : ℕ) (e : Entry) → IsPrefix log longer → slice_get log place ≡ Some e
    → slice_get longer place ≡ Some e
there_behind log longer place e more is = subst (λ (l : List Entry). slice_get l place ≡ Some e) more.1 (there_still log more.0 place e is)

stand_behind : (log longer : List Entry) (places : List ℕ) (entries : List Entry) → IsPrefix log longer → EntriesStandAt log places entries
    → EntriesStandAt longer places entries
stand_behind log longer [] [] more stand = tt
stand_behind log longer (place ∷ places) (e ∷ entries) more stand = (
  there_behind log longer place e more stand.0,
  stand_behind log longer places entries more stand.1,
)
stand_behind log longer [] (e ∷ entries) more stand = absurd stand
stand_behind log longer (place ∷ places) [] more stand = absurd stand

stand_more : (log : List Entry) (places : List ℕ) (entries : List Entry) (place : ℕ) (e : Entry) → EntriesStandAt log places entries
    → slice_get log place ≡ Some e → EntriesStandAt log (places ++ place ∷ []) (entries ++ e ∷ [])
stand_more log [] [] place e stand is = (is, tt)
stand_more log (first ∷ places) (other ∷ entries) place e stand is = (stand.0, stand_more log places entries place e stand.1 is)
stand_more log [] (other ∷ entries) place e stand is = absurd stand
stand_more log (first ∷ places) [] place e stand is = absurd stand

module _ (o : Opening) (process : ℕ) where
  longer_made : (k k' : Known) (moment : ℕ) (step : Step) (told : Answer) → Made o k moment step told k' → IsPrefix k.seen k'.seen
  longer_made k k' moment step told made = subst (IsPrefix k.seen) (sym made.seen)
      (prefix_snoc k.seen made.before (moment, step) made.longer)

  made_there : (k k' : Known) (moment : ℕ) (step : Step) (told : Answer) → (made : Made o k moment step told k')
      → slice_get k'.seen (length made.before) ≡ Some (moment, step)
  made_there k k' moment step told made = subst (λ (l : List Entry). slice_get l (length made.before) ≡ Some (moment, step)) (sym made.seen)
      (last_there made.before (moment, step))

  -- ## Reports, one after another

  module _ (tells : ℕ → Type 0) where
    -- what the reports of a chain leave
    pub record Left (k k' : Known) (heard : List Reported) : Type 0 where
      pub entries : List Entry
      pub reports : AreReports tells process heard entries
      pub places : List ℕ
      pub own : k'.own ≡ k.own ++ places
      pub stand : EntriesStandAt k'.seen places entries
      pub longer : IsPrefix k.seen k'.seen
      pub caller : k'.caller ≡ k.caller

    left_none : (k : Known) → Left k k []
    left_none k = record {
      entries = [];
      reports = record { steps = refl; told = All-nil (λ (e : Entry). tells e.0) };
      places = [];
      own = sym (append-nil k.own);
      stand = tt;
      longer = prefix_self k.seen;
      caller = refl;
    }

    left_more : (k m k' : Known) (report : Reported) (more : List Reported) → IsReported tells o process k report m → Left m k' more
        → Left k k' (report ∷ more)
    left_more k m k' report more first rest =
        let made = first.made.made in
        let e : Entry = (first.moment, report_step process report) in
        let place : ℕ = length made.before in record {
          entries = e ∷ rest.entries;
          reports = record {
            steps = ap (λ (ss : List Step). report_step process report ∷ ss) rest.reports.steps;
            told = All-cons (λ (e : Entry). tells e.0) e rest.entries first.told rest.reports.told;
          };
          places = place ∷ rest.places;
          own = rest.own ∙ (ap (λ (ps : List ℕ). ps ++ rest.places) made.own ∙ append_assoc k.own (place ∷ []) rest.places);
          stand = (
            there_behind m.seen k'.seen place e rest.longer (made_there k m first.moment (report_step process report) first.answer made),
            rest.stand,
          );
          longer = prefix_trans k.seen m.seen k'.seen (longer_made k m first.moment (report_step process report) first.answer made)
              rest.longer;
          caller = rest.caller ∙ made.caller;
        }

    pub left_behind : (k k' : Known) (heard : List Reported) → Chain tells o process k k' heard → Left k k' heard
    left_behind k k' [] same = subst (λ (x : Known). Left k x []) (sym same) (left_none k)
    left_behind k k' (report ∷ more) chain = left_more k chain.0 k' report more chain.1 (left_behind chain.0 k' more chain.2)

    -- what ended the reading added no place
    left_learnt : (k last stood : Known) (heard : List Reported) → Left k last heard → Learnt o last stood → Left k stood heard
    left_learnt k last stood heard left learnt = record {
      entries = left.entries;
      reports = left.reports;
      places = left.places;
      own = learnt.own ∙ left.own;
      stand = stand_behind last.seen stood.seen left.places left.entries learnt.longer left.stand;
      longer = prefix_trans k.seen last.seen stood.seen left.longer learnt.longer;
      caller = learnt.caller ∙ left.caller;
    }

    left_same : (k last stood : Known) (heard : List Reported) → Left k last heard → stood ≡ last → Left k stood heard
    left_same k last stood heard left same = subst (λ (x : Known). Left k x heard) (sym same) left

    pub left_stood : (how : ChildServed) (k last stood : Known) (heard : List Reported) → Left k last heard → PassLeft o how last stood
        → Left k stood heard
    left_stood served.Full k last stood heard left leaves = left_learnt k last stood heard left leaves
    left_stood served.OutOfMemory k last stood heard left (inl same) = left_same k last stood heard left same
    left_stood served.OutOfMemory k last stood heard left (inr learnt) = left_learnt k last stood heard left learnt
    left_stood how k last stood heard left leaves = left_same k last stood heard left leaves

    -- ## The end

    made_end : (k k' : Known) (moment : ℕ) (ended : EndedEnd) → EndedSo o k moment process ended k'
        → Made o k moment (Ended process) (told_of_end ended) k'
    made_end k k' moment ends.Taken so = so.0
    made_end k k' moment ends.Stale so = so.0

    pub longer_end : (stood k' : Known) (moment : ℕ) (ended : EndedEnd) → EndedSo o stood moment process ended k'
        → IsPrefix stood.seen k'.seen
    longer_end stood k' moment ended so = longer_made stood k' moment (Ended process) (told_of_end ended)
        (made_end stood k' moment ended so)

    pub end_caller : (stood k' : Known) (moment : ℕ) (ended : EndedEnd) → EndedSo o stood moment process ended k' → k'.caller ≡ stood.caller
    end_caller stood k' moment ended so = (made_end stood k' moment ended so).caller

    pub has_reported : (k stood k' : Known) (heard : List Reported) (moment : ℕ) (ended : EndedEnd) → Left k stood heard → tells moment
        → EndedSo o stood moment process ended k'
        → HasReported tells o process k k' heard
    has_reported k stood k' heard moment ended left told so =
        let made = made_end stood k' moment ended so in
        let place : ℕ = length made.before in record {
          entries = left.entries;
          reports = left.reports;
          moment = moment;
          told = told;
          places = left.places ++ place ∷ [];
          own = made.own ∙ (ap (λ (ps : List ℕ). ps ++ place ∷ []) left.own ∙ append_assoc k.own left.places (place ∷ []));
          stand = stand_more k'.seen left.places left.entries place (moment, Ended process)
              (stand_behind stood.seen k'.seen left.places left.entries (longer_end stood k' moment ended so) left.stand)
              (made_there stood k' moment (Ended process) (told_of_end ended) made);
        }
