use Rattle.std.proofs.Common.{◌≡◌, ◌∙◌, sym}
use Rattle.ti_words.proofs.Behind.{all_settings, and_stats, and_trace, argument_stands, first_five, first_four, first_three, first_two, or_first, or_second}
use Rattle.ti_words.proofs.piece.is_argument.Goals.{then-is_setting, else-is_setting, then-is_setting-2, else-is_setting-2, then-is_setting-3, else-is_setting-3, then-is_setting-4, else-is_setting-4, then-is_setting-5, else-is_setting-5, then-is_setting-6, else-is_setting-6, then-eq, else-eq}
use Rattle.ti_words.proofs.piece.is_argument.Goals as goal

pub returns-then-eq-2 : goal.returns-then-eq-2
returns-then-eq-2 c =
    let word = c.args.word.now in
    let two : c.if-is_setting.value ≡ first_two word = elim c.if-is_setting.branch [
      | then-is_setting w ↦ or_first _ _ _ (sym c.is_setting.ensures ∙ w.if-is_setting.true) (w.value-is ∙ c.is_setting.ensures)
      | else-is_setting w ↦ or_second _ _ _ (sym c.is_setting.ensures ∙ w.if-is_setting.false) (w.value-is ∙ w.is_setting-else-is_setting.ensures)
    ] in
    let three : c.if-is_setting-2.value ≡ first_three word = elim c.if-is_setting-2.branch [
      | then-is_setting-2 w ↦ or_first _ _ _ (sym two ∙ w.if-is_setting-2.true) (w.value-is ∙ two)
      | else-is_setting-2 w ↦ or_second _ _ _ (sym two ∙ w.if-is_setting-2.false) (w.value-is ∙ w.is_setting-else-is_setting-2.ensures)
    ] in
    let four : c.if-is_setting-3.value ≡ first_four word = elim c.if-is_setting-3.branch [
      | then-is_setting-3 w ↦ or_first _ _ _ (sym three ∙ w.if-is_setting-3.true) (w.value-is ∙ three)
      | else-is_setting-3 w ↦ or_second _ _ _ (sym three ∙ w.if-is_setting-3.false) (w.value-is ∙ w.is_setting-else-is_setting-3.ensures)
    ] in
    let five : c.if-is_setting-4.value ≡ first_five word = elim c.if-is_setting-4.branch [
      | then-is_setting-4 w ↦ or_first _ _ _ (sym four ∙ w.if-is_setting-4.true) (w.value-is ∙ four)
      | else-is_setting-4 w ↦ or_second _ _ _ (sym four ∙ w.if-is_setting-4.false) (w.value-is ∙ w.is_setting-else-is_setting-4.ensures)
    ] in
    let six : c.if-is_setting-5.value ≡ all_settings word = elim c.if-is_setting-5.branch [
      | then-is_setting-5 w ↦ or_first _ _ _ (sym five ∙ w.if-is_setting-5.true) (w.value-is ∙ five)
      | else-is_setting-5 w ↦ or_second _ _ _ (sym five ∙ w.if-is_setting-5.false) (w.value-is ∙ w.is_setting-else-is_setting-5.ensures)
    ] in
    let seven : c.if-is_setting-6.value ≡ and_trace word = elim c.if-is_setting-6.branch [
      | then-is_setting-6 w ↦ or_first _ _ _ (sym six ∙ w.if-is_setting-6.true) (w.value-is ∙ six)
      | else-is_setting-6 w ↦ or_second _ _ _ (sym six ∙ w.if-is_setting-6.false) (w.value-is ∙ w.eq.ensures)
    ] in
    let eight : c.if-eq.value ≡ and_stats word = elim c.if-eq.branch [
      | then-eq w ↦ or_first _ _ _ (sym seven ∙ w.if-eq.true) (w.value-is ∙ seven)
      | else-eq w ↦ or_second _ _ _ (sym seven ∙ w.if-eq.false) (w.value-is ∙ w.eq-else-eq.ensures)
    ] in
    or_first _ _ _ (sym eight ∙ c.if-eq-2.true) eight ∙ sym (argument_stands word)

pub returns-else-eq-2 : goal.returns-else-eq-2
returns-else-eq-2 c =
    let word = c.args.word.now in
    let two : c.if-is_setting.value ≡ first_two word = elim c.if-is_setting.branch [
      | then-is_setting w ↦ or_first _ _ _ (sym c.is_setting.ensures ∙ w.if-is_setting.true) (w.value-is ∙ c.is_setting.ensures)
      | else-is_setting w ↦ or_second _ _ _ (sym c.is_setting.ensures ∙ w.if-is_setting.false) (w.value-is ∙ w.is_setting-else-is_setting.ensures)
    ] in
    let three : c.if-is_setting-2.value ≡ first_three word = elim c.if-is_setting-2.branch [
      | then-is_setting-2 w ↦ or_first _ _ _ (sym two ∙ w.if-is_setting-2.true) (w.value-is ∙ two)
      | else-is_setting-2 w ↦ or_second _ _ _ (sym two ∙ w.if-is_setting-2.false) (w.value-is ∙ w.is_setting-else-is_setting-2.ensures)
    ] in
    let four : c.if-is_setting-3.value ≡ first_four word = elim c.if-is_setting-3.branch [
      | then-is_setting-3 w ↦ or_first _ _ _ (sym three ∙ w.if-is_setting-3.true) (w.value-is ∙ three)
      | else-is_setting-3 w ↦ or_second _ _ _ (sym three ∙ w.if-is_setting-3.false) (w.value-is ∙ w.is_setting-else-is_setting-3.ensures)
    ] in
    let five : c.if-is_setting-4.value ≡ first_five word = elim c.if-is_setting-4.branch [
      | then-is_setting-4 w ↦ or_first _ _ _ (sym four ∙ w.if-is_setting-4.true) (w.value-is ∙ four)
      | else-is_setting-4 w ↦ or_second _ _ _ (sym four ∙ w.if-is_setting-4.false) (w.value-is ∙ w.is_setting-else-is_setting-4.ensures)
    ] in
    let six : c.if-is_setting-5.value ≡ all_settings word = elim c.if-is_setting-5.branch [
      | then-is_setting-5 w ↦ or_first _ _ _ (sym five ∙ w.if-is_setting-5.true) (w.value-is ∙ five)
      | else-is_setting-5 w ↦ or_second _ _ _ (sym five ∙ w.if-is_setting-5.false) (w.value-is ∙ w.is_setting-else-is_setting-5.ensures)
    ] in
    let seven : c.if-is_setting-6.value ≡ and_trace word = elim c.if-is_setting-6.branch [
      | then-is_setting-6 w ↦ or_first _ _ _ (sym six ∙ w.if-is_setting-6.true) (w.value-is ∙ six)
      | else-is_setting-6 w ↦ or_second _ _ _ (sym six ∙ w.if-is_setting-6.false) (w.value-is ∙ w.eq.ensures)
    ] in
    let eight : c.if-eq.value ≡ and_stats word = elim c.if-eq.branch [
      | then-eq w ↦ or_first _ _ _ (sym seven ∙ w.if-eq.true) (w.value-is ∙ seven)
      | else-eq w ↦ or_second _ _ _ (sym seven ∙ w.if-eq.false) (w.value-is ∙ w.eq-else-eq.ensures)
    ] in
    or_second _ _ _ (sym eight ∙ c.if-eq-2.false) c.eq-else-eq-2.ensures ∙ sym (argument_stands word)
