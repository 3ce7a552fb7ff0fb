-- The documents of a session, when one is stored or removed.
use Rattle.std.proofs.Common.{◌≡◌, ℕ, ℤ, Bool, false, cond, List, Option, None, Some, string_bytes, ap, ◌∙◌}
use Rattle.std.specs.BTreeMap.{BTreeMap, UpdatesBy, get_by_text}
use Rattle.std.specs.Cmp.Lexicographic.{slice_cmp}
use Rattle.std.specs.Ordering.{nat_cmp}
use Rattle.std.specs.Str.{bytes_eq}
use Rattle.std.specs.String.{string_cmp}
use Rattle.std.specs.declared.string.String.{String}
use Rattle.std.proofs.lemmas.Map.Text.{btree_map_updates_text}
use Rattle.serde_json.specs.Data.{Data, array, no_items}
use Rattle.ti_lsp.specs.declared.client.Client.{Client}
use Rattle.ti_lsp.specs.declared.diagnostic.Diagnostic.{Diagnostic}
use Rattle.ti_lsp.specs.declared.document.Document.{Document}
use Rattle.ti_lsp.specs.Analysis.{IsAnalysis}
use Rattle.ti_lsp.specs.Diagnostics.{diagnostics_of, publication_of}
use Rattle.ti_lsp.specs.Handling.{Documents, Clears, Publishes}

-- other documents stay
pub others_stay : {X Y : Type 0} (uri : List ℕ) (old new : BTreeMap (String Y) X) (w : Option X)
    → UpdatesBy string_cmp (λ k. slice_cmp nat_cmp uri (string_bytes k)) old new w → (q : List ℕ) → bytes_eq uri q ≡ false
    → get_by_text new q ≡ get_by_text old q
others_stay uri old new w updates q apart =
    btree_map_updates_text uri old new w updates q ∙ ap (λ (t : Bool). cond t w (get_by_text old q)) apart

pub clears : (uri : List ℕ) (before after : Documents) (sent : Data) → sent ≡ publication_of uri None (array no_items) → after uri ≡ None
    → ((q : List ℕ) → bytes_eq uri q ≡ false → after q ≡ before q) → Clears uri before after (Some sent)
clears uri before after sent published gone others = record { published = ap Some published; gone = gone; others = others }

pub publishes : (rejects : List ℕ → Diagnostic → Type 0) (client : Client) (uri : List ℕ) (version : Option ℤ) (text : List ℕ) (document : Document)
    (before after : Documents) (sent : Data) → string_bytes document.text ≡ text → document.version ≡ version → IsAnalysis (rejects text) document.diagnostic
    → sent ≡ publication_of uri version (diagnostics_of client uri text document.diagnostic) → after uri ≡ Some document
    → ((q : List ℕ) → bytes_eq uri q ≡ false → after q ≡ before q) → Publishes rejects client uri version text before after (Some sent)
publishes rejects client uri version text document before after sent is same analyzed published is_open others = record {
  document = document;
  analyzed = analyzed;
  text_is = is;
  version_is = same;
  published = ap Some published;
  is_open = is_open;
  others = others;
}
