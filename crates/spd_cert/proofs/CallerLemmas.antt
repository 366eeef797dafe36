-- What callers' proofs cite of certificates: which digest a text names.
use Rattle.std.proofs.Common.{◌≡◌, ◌∙◌, ℕ, List, ◌∷◌, [], ◌++◌, codes, decimal, Option, Some, sym, ap, subst, append_assoc}
use Rattle.std.proofs.lemmas.Option.{same_Some}
use Rattle.spd_model.specs.Process.{Process}
use Rattle.spd_model.specs.ResultText.{line, why_text, var_name, place_line, nodes_text}
use Rattle.spd_cert.specs.declared.cert.Cert.{Cert}
use Rattle.spd_cert.specs.Certificates.{IsVersion}
use Rattle.spd_cert.specs.Grammar.{Spelling, version_lines, place_of, cert_text, IsWritten, NamesModel}
use Rattle.spd_cert.proofs.NamingLaws.{named_read}

-- what stands behind the lines of the version and of the digest
behind_version : Process → Cert → Spelling → List ℕ
behind_version m c w =
    line (codes "status" ∷ why_text c.why ∷ []) ++ (line (codes "turn" ∷ decimal c.turn ∷ []) ++ (line (codes "residual" ∷ w.residual ∷ []) ++ (place_line m (place_of c) ++ (line (codes "error" ∷ w.error ∷ [])
    ++ (nodes_text (λ word. word) (var_name m) (codes "value") w.value ++ (nodes_text (λ word. word) (var_name m) (codes "policy") w.policy ++ line (codes "end" ∷ [])))))))

text_begins : (m : Process) (c : Cert) (w : Spelling) → cert_text m c w ≡ version_lines c.digest ++ behind_version m c w
unfolding behind_version
text_begins m c w =
    regroup (version_lines c.digest) (line (codes "status" ∷ why_text c.why ∷ [])) (line (codes "turn" ∷ decimal c.turn ∷ [])) (line (codes "residual" ∷ w.residual ∷ [])) (place_line m (place_of c))
    (line (codes "error" ∷ w.error ∷ [])) (nodes_text (λ word. word) (var_name m) (codes "value") w.value) (nodes_text (λ word. word) (var_name m) (codes "policy") w.policy) (line (codes "end" ∷ []))
  where
    regroup : (a b c d e f g h i : List ℕ) → (((((((a ++ b) ++ c) ++ d) ++ e) ++ f) ++ g) ++ h) ++ i ≡ a ++ (b ++ (c ++ (d ++ (e ++ (f ++ (g ++ (h ++ i)))))))
    regroup a b c d e f g h i = simp append_assoc

-- a text names the digest of the certificate that it is
pub written-names : (m : Process) (bytes : List ℕ) (c : Cert) (digest : List ℕ) → IsWritten m bytes c → c.digest ≡ Some digest → NamesModel bytes digest
written-names m bytes c digest written is =
    let version : IsVersion c.version (Some digest) = subst (IsVersion c.version) is written.fits.version in
    let rest = behind_version m c written.words in
    record {
      rest = rest;
      begins = written.spelled ∙ text_begins m c written.words ∙ ap (λ (d : Option (List ℕ)). version_lines d ++ rest) is;
      long = version.1;
      digits = version.2;
    }

-- a text names one digest
pub names-one : (bytes a b : List ℕ) → NamesModel bytes a → NamesModel bytes b → a ≡ b
names-one bytes a b x y = same_Some a b (sym (named_read bytes a x) ∙ named_read bytes b y)
