use Rattle.std.proofs.Common.{ℕ, List, ◌++◌, refl, ap, sym, ◌∙◌, append_assoc}
use Rattle.std.specs.List.{flat_map}
use Rattle.ndr_body.specs.Writing.{handle_bytes, number_bytes}
use Rattle.scm_shapes.proofs.WrittenAtOnce.{handle_at_once}
use Rattle.scm_shapes.proofs.handle_body.write_handle.Goals as goal

pub returns-in-Ok : goal.returns-in-Ok
returns-in-Ok c =
    let front = c.args.out.items in
    let handle = c.args.handle in
    let numbers = c.args.numbers.now in
    let appended = c.append_handle.ensures.items ∙ ap (λ (held : List ℕ). held ++ handle_bytes handle) c.in-Ok.ensures.items in
    record {
      ok = c.append_numbers.ensures ∙ ap (λ (held : List ℕ). held ++ flat_map number_bytes numbers) appended
          ∙ append_assoc front (handle_bytes handle) (flat_map number_bytes numbers)
          ∙ ap (λ (body : List ℕ). front ++ body) (sym (handle_at_once handle numbers));
      err = tt;
      enough = λ le. refl;
    }
