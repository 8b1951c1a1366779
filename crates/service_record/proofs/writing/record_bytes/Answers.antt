use Rattle.std.proofs.Common.{◌≡◌, ℕ, List, ◌++◌, ap, ◌∙◌}
use Rattle.service_record.specs.Spelling.{front, middle, back, end, encoding, encoding_1}
use Rattle.service_record.proofs.Records.{read_back}
use Rattle.service_record.proofs.writing.record_bytes.Goals as goal

pub returns-clause-read_back : goal.returns-clause-read_back
returns-clause-read_back c =
    let config = c.args.config.now in
    let p1 : c.put_front.new.out ≡ front config = c.in_ok-put_front.ensures.bytes
    ∙ ap (λ (t : List ℕ). t ++ front config) c.new-out.ensures in
    let p2 : c.put_middle.new.out ≡ front config ++ middle config = c.in_ok-put_middle.ensures.bytes
    ∙ ap (λ (t : List ℕ). t ++ middle config) p1 in
    let p3 : c.put_back.new.out ≡ encoding_1 config = c.in_ok-put_back.ensures.bytes ∙ ap (λ (t : List ℕ). t ++ back config) p2 in
    let p4 : c.put_end.new.out ≡ encoding config = c.in_ok-put_end.ensures.bytes ∙ ap (λ (t : List ℕ). t ++ end config) p3 in
    read_back config c.put_end.new.out (
      c.in_ok-put_front.ensures.fits,
      c.in_ok-put_middle.ensures.fits,
      c.in_ok-put_back.ensures.fits,
      c.in_ok-put_end.ensures.fits,
    ) p4
