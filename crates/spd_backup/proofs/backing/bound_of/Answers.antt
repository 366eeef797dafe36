use Rattle.std.proofs.Common.{◌<◌, length, rules, ◌∙◌, sym, subst}
use Rattle.spd_backup.specs.Making.{MakesBound}
use Rattle.spd_apply.proofs.CallerLemmas.{answers-grow}
use Rattle.spd_weigh.specs.declared.way.Way.TheVariants.{Down, Up}
use Rattle.spd_weigh.proofs.CallerLemmas.{discounts-grow}
use Rattle.spd_backup.proofs.BoundLaws.{small-discount, expected-values, later-made, reward-here, bound-fits, bound-made}
use Rattle.spd_backup.proofs.KeepingLaws.{all-grow}
use Rattle.spd_model.proofs.CallerLemmas.Results.{err_is}
use Rattle.spd_backup.proofs.PartLaws.{reward-room}
use Rattle.spd_backup.proofs.backing.bound_of.Goals as goal
use Rattle.spd_nodes.proofs.CallerLemmas.{among-fails, grows-then}

pub expected_of-requires : goal.expected_of-requires
expected_of-requires g c = record { followed = c.requires.followed; tables = c.requires.tables }

-- ---- where the expectation isn't made

pub returns-in_err-expected-clause-made : goal.returns-in_err-expected-clause-made
returns-in_err-expected-clause-made g c = λ m a w f.
    subst (MakesBound c.args.way m a w (g.F.Forest.shows c.args.forest.now) (g.F.Forest.shows c.expected_of.new.forest)) (sym (err_is c.from_residual.result c.in_err-expected.field-0.0 c.from_residual.ensures.1))
    (record { among = among-fails c.in_err-expected.field-0.0 (c.in_err-expected.ensures.made m a w f).among; known = tt })

pub returns-in_err-expected-clause-keeps : goal.returns-in_err-expected-clause-keeps
returns-in_err-expected-clause-keeps g c = c.expected_of.ensures.keeps

pub returns-in_err-expected-clause-tables : goal.returns-in_err-expected-clause-tables
returns-in_err-expected-clause-tables g c = c.expected_of.ensures.tables

-- ---- discounting

pub discount_once-requires : goal.discount_once-requires
discount_once-requires g c =
    let k = c.requires.followed in
    let s = g.F.Forest.shows c.args.forest.now in
    let t = g.F.Forest.shows c.expected_of.new.forest in
    let made = c.in_ok-expected.ensures.made k.process k.chosen k.value k.follows in
    record {
      known = made.among.ok.knows;
      whole = made.among.ok.whole;
      discount = small-discount c.args.way k.process k.chosen k.value s c.layout.ensures.sound c.args.thawed.now c.args.action c.args.next k.follows;
      values = expected-values c.args.way k.process k.chosen k.value s c.layout.ensures.sound c.args.thawed.now c.args.action c.args.next k.follows t c.in_ok-expected.expected made;
      down = c.expected_of.ensures.tables.down.discounts;
      up = c.expected_of.ensures.tables.up.discounts;
    }

pub returns-in_err-later-clause-made : goal.returns-in_err-later-clause-made
returns-in_err-later-clause-made g c = λ m a w f.
    subst (MakesBound c.args.way m a w (g.F.Forest.shows c.args.forest.now) (g.F.Forest.shows c.discount_once.new.forest)) (sym (err_is c.from_residual-in_err-later.result c.in_err-later.field-0.0 c.from_residual-in_err-later.ensures.1))
    (record {
      among = among-fails c.in_err-later.field-0.0 (later-made c.args.way m a w (g.F.Forest.shows c.args.forest.now) c.layout.ensures.sound c.args.thawed.now c.args.action c.args.next f (g.F.Forest.shows c.expected_of.new.forest) c.in_ok-expected.expected (c.in_ok-expected.ensures.made m a w f)
          (g.F.Forest.shows c.discount_once.new.forest) _ c.in_err-later.ensures.made);
      known = tt;
    })

pub returns-in_err-later-clause-keeps : goal.returns-in_err-later-clause-keeps
returns-in_err-later-clause-keeps g c = c.discount_once.ensures.keeps ∙ c.expected_of.ensures.keeps

pub returns-in_err-later-clause-tables : goal.returns-in_err-later-clause-tables
returns-in_err-later-clause-tables g c =
    let t = g.F.Forest.shows c.expected_of.new.forest in
    let u = g.F.Forest.shows c.discount_once.new.forest in
    let held = all-grow (length c.args.thawed.now.sizes.items) c.args.thawed.now.g t u c.expected_of.new.tables c.in_err-later.ensures.made.grows c.expected_of.ensures.tables in
    record {
      next = held.next;
      down = record { sums = held.down.sums; discounts = c.discount_once.ensures.down };
      up = record { sums = held.up.sums; discounts = c.discount_once.ensures.up };
      adds = held.adds;
    }

-- ---- adding the reward

pub index-reward-requires : goal.index-reward-requires
index-reward-requires g c =
    let k = c.requires.followed in
    let room : c.args.action < length c.args.thawed.now.rewards.items = reward-room k.process k.chosen (g.F.Forest.shows c.args.forest.now) c.args.thawed.now c.args.action k.follows.has in
    search rules

pub apply-requires : goal.apply-requires
apply-requires g c =
    let k = c.requires.followed in
    let s = g.F.Forest.shows c.args.forest.now in
    let t = g.F.Forest.shows c.expected_of.new.forest in
    let u = g.F.Forest.shows c.discount_once.new.forest in
    let made = c.in_ok-expected.ensures.made k.process k.chosen k.value k.follows in
    let reward = reward-here c.args.way k.process k.chosen k.value s c.layout.ensures.sound c.args.thawed.now c.args.action c.args.next k.follows t c.in_ok-expected.expected made u c.in_ok-later.later c.in_ok-later.ensures.made c.index-reward.result.now c.index-reward.ensures in
    record {
      left = reward.knows;
      right = c.in_ok-later.ensures.made.ok.knows;
      left_whole = reward.whole;
      right_whole = c.in_ok-later.ensures.made.ok.whole;
      fit = bound-fits c.args.way k.process k.chosen k.value s c.layout.ensures.sound c.args.thawed.now c.args.action c.args.next k.follows t c.in_ok-expected.expected made u c.in_ok-later.later c.in_ok-later.ensures.made c.index-reward.result.now c.index-reward.ensures;
      memo = answers-grow c.expected_of.ensures.tables.adds c.in_ok-later.ensures.made.grows;
    }

pub returns-clause-made : goal.returns-clause-made
returns-clause-made g c = λ m a w f.
    bound-made c.args.way m a w (g.F.Forest.shows c.args.forest.now) c.layout.ensures.sound c.args.thawed.now c.args.action c.args.next f (g.F.Forest.shows c.expected_of.new.forest) c.in_ok-expected.expected (c.in_ok-expected.ensures.made m a w f)
    (g.F.Forest.shows c.discount_once.new.forest) c.in_ok-later.later c.in_ok-later.ensures.made c.index-reward.result.now c.index-reward.ensures (g.F.Forest.shows c.apply.new.forest) c.apply.result c.apply.ensures.made

pub returns-clause-keeps : goal.returns-clause-keeps
returns-clause-keeps g c = c.apply.ensures.keeps ∙ c.discount_once.ensures.keeps ∙ c.expected_of.ensures.keeps

pub returns-clause-tables : goal.returns-clause-tables
returns-clause-tables g c =
    let t = g.F.Forest.shows c.expected_of.new.forest in
    let u = g.F.Forest.shows c.discount_once.new.forest in
    let v = g.F.Forest.shows c.apply.new.forest in
    let later = c.in_ok-later.ensures.made.grows in
    let last = c.apply.ensures.made.grows in
    let held = all-grow (length c.args.thawed.now.sizes.items) c.args.thawed.now.g t v c.expected_of.new.tables (grows-then later last) c.expected_of.ensures.tables in
    record {
      next = held.next;
      down = record { sums = held.down.sums; discounts = discounts-grow Down c.args.thawed.now.g u v c.discount_once.new.down last c.discount_once.ensures.down };
      up = record { sums = held.up.sums; discounts = discounts-grow Up c.args.thawed.now.g u v c.discount_once.new.up last c.discount_once.ensures.up };
      adds = c.apply.ensures.memo;
    }
