use Rattle.std.proofs.Common.{◌∙◌, sym, rules, tests, string_bytes, Global, String}
use Rattle.std.proofs.lemmas.Iterator.{YieldsList-from_slice}
use Rattle.std.proofs.lemmas.Iterator.Search.{all_from_yields_List}
use Rattle.std.proofs.lemmas.List.Folds.{list_all-map}
use Rattle.ti_words.specs.Uses.{Word, piece_of}
use Rattle.ti_words.specs.Mirrors.Command.{can_stand}
use Rattle.ti_words.proofs.piece.all_stand.Goals as goal

pub returns : goal.returns
returns c =
    all_from_yields_List (λ (s : String Global). can_stand (piece_of (string_bytes s))) _ _ c.all.result c.all.ensures.ran (YieldsList-from_slice c.args.words.now cc)
    (λ x b q k. search (rules, tests))
    ∙ sym (list_all-map (λ (word : Word). can_stand (piece_of word)) (string_bytes {Z = Global}) c.args.words.now)
