use Rattle.std.proofs.Common.{◌/◌, ◌^◌, ◌-◌, ◌<◌, sym, ap, ◌∙◌, subst, arith}
use Rattle.std.proofs.lemmas.Nat.{pow_pos}
use Rattle.spd_cons_core.specs.Spelling.{words_of, hash_of}
use Rattle.spd_cons_core.proofs.Starts.{start_shift, start_below}
use Rattle.spd_cons_core.proofs.spelling.start_bucket.Goals as goal

pub returns-clause-start : goal.returns-clause-start
returns-clause-start c =
    ap (λ n. n / 2 ^ (64 - c.args.bits)) (c.hash_of.ensures ∙ ap hash_of c.words_of.ensures.words) ∙ start_shift (words_of c.args.key.now) c.args.bits (omega arith)

pub returns-clause-below : goal.returns-clause-below
returns-clause-below c = subst (λ n. n < 2 ^ c.args.bits) (sym (returns-clause-start c)) (start_below (words_of c.args.key.now) (2 ^ c.args.bits) (pow_pos c.args.bits))
