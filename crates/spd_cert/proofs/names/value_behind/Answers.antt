use Rattle.std.proofs.Common.{◌≡◌, ◌+◌, ◌-◌, Bool, true, cond, length, take, drop, take_all, None, sym, ap, ◌∙◌, arith}
use Rattle.std.proofs.lemmas.List.{length-drop}
use Rattle.std.specs.Prelude.{bytes_eq}
use Rattle.std.proofs.lemmas.Bool.Decides.{nat_tests}
use Rattle.spd_cert.specs.Words.{value_number}
use Rattle.spd_cert.proofs.names.value_behind.Goals as goal

pub returns-in-Some : goal.returns-in-Some
returns-in-Some c =
    let var = c.args.var.now in
    let behind = drop (c.args.n + 1) c.args.text.now in
    let rest : take (length c.args.text.now - (c.args.n + 1)) behind ≡ behind = take_all (length c.args.text.now - (c.args.n + 1)) behind (omega (arith, length-drop (c.args.n + 1) c.args.text.now)) in
    let named : bytes_eq (take c.args.n c.args.text.now) c.args.var.now.name ≡ true = grind (arith, nat_tests) in
    c.in-Some.ensures.number ∙ (λ i. value_number (c.as_slice-2.ensures i) (rest i)) ∙ sym (ap (λ (b : Bool). cond b (value_number var.values behind) None) named)

pub returns-in-None : goal.returns-in-None
returns-in-None c =
    let var = c.args.var.now in
    let behind = drop (c.args.n + 1) c.args.text.now in
    let rest : take (length c.args.text.now - (c.args.n + 1)) behind ≡ behind = take_all (length c.args.text.now - (c.args.n + 1)) behind (omega (arith, length-drop (c.args.n + 1) c.args.text.now)) in
    let named : bytes_eq (take c.args.n c.args.text.now) c.args.var.now.name ≡ true = grind (arith, nat_tests) in
    c.in-None.ensures.number ∙ (λ i. value_number (c.as_slice-2.ensures i) (rest i)) ∙ sym (ap (λ (b : Bool). cond b (value_number var.values behind) None) named)
