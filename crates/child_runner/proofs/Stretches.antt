-- Stretches of a child's output, one after another.
use Rattle.std.proofs.Common.{ℕ, ◌≡◌, ◌∙◌, ◌+◌, ◌<◌, ◌==◌, true, false, List, [], ◌∷◌, ◌++◌, length, take, drop, get_or, Option, None, Some}
use Rattle.std.proofs.Common.{Result, Ok, Err, refl, sym, ap, subst, append_assoc, append-nil, eqb-true}
use Rattle.std.proofs.lemmas.List.{take_more, drop_more, take-append-drop}
use Rattle.outside.specs.Written.{Begins}
use Rattle.child_link.specs.declared.lines.Reported.{Reported}
use Rattle.book_rule.specs.declared.view.Opening.{Opening}
use Rattle.child_link.specs.Cutting.{kept_with}
use Rattle.child_link.specs.Lines.{stated}
use Rattle.scm_book.specs.declared.fault.MakeFault.{MakeFault}
use Rattle.scm_book.specs.Passes.{Known}
use Rattle.child_runner.specs.Reports.{Chain, Fed, GoesOn, HasRead, IsNotMade, IsReported, Reports, Stops, reports}
use Rattle.child_runner.proofs.Reading.{ended_line, feed_told, line_ends, one_byte}

begins_as : (front front' all all' : List Reported) → front ≡ front' → all ≡ all' → Begins front all → Begins front' all'
begins_as front front' all all' same whole begins = subst (λ (f : List Reported). Begins f all') same (subst (Begins front) whole begins)

module _ (tells : ℕ → Type 0) (o : Opening) (process : ℕ) where
  pub chain_append : (k m k' : Known) (xs ys : List Reported) → Chain tells o process k m xs → Chain tells o process m k' ys
      → Chain tells o process k k' (xs ++ ys)
  chain_append k m k' [] ys first then = subst (λ (x : Known). Chain tells o process x k' ys) first then
  chain_append k m k' (x ∷ xs) ys first then = (first.0, first.1, chain_append first.0 m k' xs ys first.2 then)

  -- ## One byte

  -- a line goes on
  pub byte_on : (line line' : List ℕ) (byte : ℕ) (k : Known) → (byte == 10) ≡ false → line' ≡ kept_with line byte
      → GoesOn tells o process (byte ∷ []) line line' k k
  byte_on line line' byte k other is = record {
    heard = [];
    reads = λ read before has. subst (λ (ss : List Reported). HasRead (read ++ byte ∷ []) ss line') (sym (append-nil before))
        (one_byte read before line line' byte other is has);
    chain = refl;
  }

  module _ (line line' : List ℕ) (byte : ℕ) (k k' : Known) (feed : (byte == 10) ≡ true) (empty : line' ≡ []) where
    at_feed : (found : Option Reported) → found ≡ stated (kept_with line byte) → found ≡ stated (line ++ 10 ∷ [])
    at_feed found is = is ∙ ap stated (ended_line line byte feed)

    ends : (read : List ℕ) (before : List Reported) (found : Option Reported) → HasRead (read ++ 10 ∷ []) before []
        → HasRead (read ++ byte ∷ []) before line'
    ends read before found has =
        subst (λ (n : ℕ). HasRead (read ++ n ∷ []) before line') (sym (eqb-true byte 10 feed))
        (subst (HasRead (read ++ 10 ∷ []) before) (sym empty) has)

    -- a line that is no report ends
    pub no_report : (found : Option Reported) → found ≡ None → found ≡ stated (kept_with line byte) → k' ≡ k
        → GoesOn tells o process (byte ∷ []) line line' k k'
    no_report found none is same = record {
      heard = [];
      reads = λ read before has. ends read (before ++ []) None (line_ends read before line None (at_feed None (sym none ∙ is)) has);
      chain = same;
    }

    -- a report was made of the line that ends
    one_report : (found : Option Reported) (report : Reported) → found ≡ Some report → found ≡ stated (kept_with line byte)
        → IsReported tells o process k report k' → GoesOn tells o process (byte ∷ []) line line' k k'
    one_report found report some is made = record {
      heard = report ∷ [];
      reads = λ read before has. ends read (before ++ report ∷ []) (Some report)
          (line_ends read before line (Some report) (at_feed (Some report) (sym some ∙ is)) has);
      chain = (k', made, refl);
    }

    -- or it wasn't
    lacks_report : (found : Option Reported) (report : Reported) (why : MakeFault) → found ≡ Some report
        → found ≡ stated (kept_with line byte) → IsNotMade tells o process k report k' why
        → Stops tells o process (byte ∷ []) line line' k k' why
    lacks_report found report why some is lacks = record {
      heard = [];
      last = k;
      chain = refl;
      next = report;
      follows = λ read before has more. (
        reports more,
        ap (λ (n : ℕ). reports (read ++ n ∷ more)) (eqb-true byte 10 feed)
            ∙ feed_told read before line (Some report) (at_feed (Some report) (sym some ∙ is)) has more,
      );
      lacks = lacks;
    }

    -- whatever became of it
    pub report_fed : {T : Type 0} (found : Option Reported) (report : Reported) (result : Result T MakeFault) → found ≡ Some report
        → found ≡ stated (kept_with line byte) → Reports tells o process k report k' result
        → Fed tells o process (byte ∷ []) line line' k k' result
    report_fed found report (Ok done) some is made = one_report found report some is made
    report_fed found report (Err why) some is lacks = lacks_report found report why some is lacks

  -- ## One after another

  -- nothing came
  pub goes_nowhere : (line : List ℕ) (k : Known) → GoesOn tells o process [] line line k k
  goes_nowhere line k = record {
    heard = [];
    reads = λ read before has. subst (λ (bs : List ℕ). HasRead bs (before ++ []) line) (sym (append-nil read))
        (subst (λ (ss : List Reported). HasRead read ss line) (sym (append-nil before)) has);
    chain = refl;
  }

  goes_further : (xs ys line mid line' : List ℕ) (k m k' : Known) → GoesOn tells o process xs line mid k m
      → GoesOn tells o process ys mid line' m k' → GoesOn tells o process (xs ++ ys) line line' k k'
  goes_further xs ys line mid line' k m k' p q = record {
    heard = p.heard ++ q.heard;
    reads = λ read before has.
        subst (λ (bs : List ℕ). HasRead bs (before ++ (p.heard ++ q.heard)) line') (append_assoc read xs ys)
        (subst (λ (ss : List Reported). HasRead ((read ++ xs) ++ ys) ss line') (append_assoc before p.heard q.heard)
        (q.reads (read ++ xs) (before ++ p.heard) (p.reads read before has)));
    chain = chain_append k m k' p.heard q.heard p.chain q.chain;
  }

  stops_there : (xs ys zs line mid line' line'' : List ℕ) (k m k' : Known) (why : MakeFault) → GoesOn tells o process xs line mid k m
      → Stops tells o process ys mid line' m k' why
      → Stops tells o process (xs ++ (ys ++ zs)) line line'' k k' why
  stops_there xs ys zs line mid line' line'' k m k' why p q = record {
    heard = p.heard ++ q.heard;
    last = q.last;
    chain = chain_append k m q.last p.heard q.heard p.chain q.chain;
    next = q.next;
    follows = λ read before has more.
        begins_as ((before ++ p.heard) ++ (q.heard ++ q.next ∷ [])) (before ++ ((p.heard ++ q.heard) ++ q.next ∷ []))
        (reports ((read ++ xs) ++ (ys ++ (zs ++ more)))) (reports (read ++ ((xs ++ (ys ++ zs)) ++ more)))
        (append_assoc before p.heard (q.heard ++ q.next ∷ []) ∙ ap (λ (ss : List Reported). before ++ ss)
        (sym (append_assoc p.heard q.heard (q.next ∷ []))))
        (ap reports (append_assoc read xs (ys ++ (zs ++ more)) ∙ ap (λ (bs : List ℕ). read ++ bs)
        (ap (λ (bs : List ℕ). xs ++ bs) (sym (append_assoc ys zs more)) ∙ sym (append_assoc xs (ys ++ zs) more))))
        (q.follows (read ++ xs) (before ++ p.heard) (p.reads read before has) (zs ++ more));
    lacks = q.lacks;
  }

  -- one byte more of a piece
  pub one_more : (piece : List ℕ) (i x : ℕ) (line mid line' : List ℕ) (k m k' : Known) → i < length piece → get_or piece i 0 ≡ x
      → GoesOn tells o process (take i piece) line mid k m
      → GoesOn tells o process (x ∷ []) mid line' m k' → GoesOn tells o process (take (i + 1) piece) line line' k k'
  one_more piece i x line mid line' k m k' low at p q =
      subst (λ (bs : List ℕ). GoesOn tells o process bs line line' k k') (ap (λ (n : ℕ). take i piece ++ n ∷ []) (sym at)
      ∙ sym (take_more piece i 0 low)) (goes_further (take i piece) (x ∷ []) line mid line' k m k' p q)

  -- a byte of it at which no report is made
  pub one_stops : (piece : List ℕ) (i x : ℕ) (line mid line' : List ℕ) (k m k' : Known) (why : MakeFault) → i < length piece
      → get_or piece i 0 ≡ x → GoesOn tells o process (take i piece) line mid k m
      → Stops tells o process (x ∷ []) mid line' m k' why → Stops tells o process piece line line' k k' why
  one_stops piece i x line mid line' k m k' why low at p q =
      subst (λ (bs : List ℕ). Stops tells o process bs line line' k k' why)
      (ap (λ (n : ℕ). take i piece ++ n ∷ drop (i + 1) piece) (sym at) ∙
      (ap (λ (bs : List ℕ). take i piece ++ bs) (sym (drop_more piece i 0 low)) ∙ take-append-drop i piece))
      (stops_there (take i piece) (x ∷ []) (drop (i + 1) piece) line mid line' line' k m k' why p q)
