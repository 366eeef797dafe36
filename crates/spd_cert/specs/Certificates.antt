-- Which certificates fit a model.
use Rattle.std.specs.Prelude.{ℕ, ◌≡◌, ◌≤◌, ◌^◌, List, length, ℤ, pos, ◌≤ℤ◌, Option, Some, None}
use Rattle.hex.specs.Hex.{IsBytes}
use Rattle.spd_model.specs.declared.Why.{Why}
use Rattle.spd_model.specs.Process.{Process}
use Rattle.spd_frozen.specs.Frozen.{IsFrozen}
use Rattle.spd_frozen.specs.Fits.{FitsModel as FitsIterate}
use Rattle.spd_frozen.specs.declared.iterate.Iterate.{Iterate}
use Rattle.spd_cert.specs.declared.cert.Cert.{Cert}

-- what a certificate tells of a turn
abbrev pub iterate_of : Cert → Iterate
iterate_of c = record {
  turn = c.turn;
  value = c.value;
  policy = c.policy;
  residual = record { r = c.residual; at = c.place; side = c.side; action = c.action };
  error = c.error;
}

-- the certificate of version 2 that tells a turn, of a model whose file has this digest
abbrev pub cert_of : List ℕ → Why → Iterate → Cert
cert_of digest why x = record {
  version = 2;
  digest = Some digest;
  turn = x.turn;
  why = why;
  residual = x.residual.r;
  place = x.residual.at;
  side = x.residual.side;
  action = x.residual.action;
  error = x.error;
  value = x.value;
  policy = x.policy;
}

-- a text of version 2 names the digest of the model's file, 32 bytes, and one of version 1 doesn't
abbrev pub IsVersion : ℕ → Option (List ℕ) → Type 0
IsVersion version None = version ≡ 1
IsVersion version (Some digest) = (version ≡ 2) × (length digest ≡ 32) × IsBytes digest

-- a residual and an error: 0 to 10^30 units of 10^-9
abbrev pub IsDistance : ℤ → Type 0
IsDistance x = (pos 0 ≤ℤ x) × (x ≤ℤ pos (10 ^ 30))

-- The numbers of a certificate are in their ranges: turns up to 1,000,000, up to 999,999,999 nodes in each diagram,
-- and a residual and an error that are distances.
pub record IsInRange (c : Cert) : Type 0 where
  pub turn : c.turn ≤ 1000000
  pub value_nodes : length c.value ≤ 999999999
  pub policy_nodes : length c.policy ≤ 999999999
  pub residual : IsDistance c.residual
  pub error : IsDistance c.error

-- a certificate fits a model: what it tells of a turn does as an iterate, and its version, its diagrams and its numbers are lawful
pub record FitsModel (m : Process) (c : Cert) : Type 0 where
  pub iterate : FitsIterate m (iterate_of c)
  pub version : IsVersion c.version c.digest
  pub value : IsFrozen c.value
  pub policy : IsFrozen c.policy
  pub range : IsInRange c
