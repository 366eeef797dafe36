use Rattle.std.proofs.Common.{◌≡◌, ◌∙◌, ◌+◌, sym, ap, subst, true}
use Rattle.spd_cons_core.specs.declared.key.Key.{Key}
use Rattle.spd_cons_core.specs.declared.mind.Call.{Call}
use Rattle.spd_cons_core.specs.Spelling.{IsKey}
use Rattle.spd_cons_core.specs.Events.{can_load_bucket, call_for}
use Rattle.spd_cons.specs.declared.view.Size.{Size}
use Rattle.spd_cons.specs.Told.{TellsBucket}
use Rattle.spd_cons.proofs.Looking.{looks-into}
use Rattle.spd_cons.proofs.words.WordTable.look_into.Goals as goal

pub load_bucket-requires : goal.load_bucket-requires
load_bucket-requires g c = record {
  own = c.requires.own;
  can = subst (λ (key : Key). can_load_bucket key c.args.active.now.token.me.0.mind ≡ true) (sym c.requires.key) c.requires.ready.can;
  fits = subst IsKey (sym c.requires.key) c.requires.fits;
  at = (λ i. (call_for ((sym c.requires.own.1 i).count) (c.requires.key i) c.args.active.now.token.me.0.mind).at) ∙ ap (λ (z : Call). z.at) c.requires.ready.call;
  within = c.requires.within;
}

pub returns-clause-looks : goal.returns-clause-looks
returns-clause-looks g c =
    looks-into _ _ _ _ _ c.requires.ready c.requires.fits (ap (λ (z : Size). z.limit + z.most) c.requires.own.1)
    (subst (λ (key : Key). TellsBucket key c.args.active.now.token.me c.load_bucket.result c.load_bucket.new.token.me) c.requires.key c.load_bucket.ensures.tells)
