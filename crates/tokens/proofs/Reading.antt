-- How `numbers` goes along a text: what is found so far, and one number more.
use Rattle.std.proofs.Common.{◌≡◌, ℕ, suc, ◌+◌, ◌-◌, ◌<◌, ◌≤◌, List, [], ◌∷◌, ◌++◌, length, take, drop, set, Some, Ok, Err, Result, sym, refl, ap, ◌∙◌, append_assoc, arith, length-drop, length-set}
use Rattle.std.proofs.lemmas.List.{take_rest, take_more_set}
use Rattle.tokens.specs.Number.{worth}
use Rattle.tokens.specs.Word.{Word, number, numeral}
use Rattle.tokens.specs.Numbers.{read, prepend, counted, taken}

prepend_prepend : (ms ns : List ℕ) (r : Result (List ℕ) ℕ) → prepend ms (prepend ns r) ≡ prepend (ms ++ ns) r
prepend_prepend ms ns (Ok ks) = ap Ok (sym (append_assoc ms ns ks))
prepend_prepend ms ns (Err c) = refl

-- the first i of k numbers of the text are found, and rest is what is left, from column on
pub record Sofar (k : ℕ) (text found : List ℕ) (i column : ℕ) (rest : List ℕ) : Type 0 where
  pub columns : column + length rest ≡ 2 + length text
  pub room : length found ≡ k
  pub same : read k 2 text ≡ prepend (take i found) (read (k - i) column rest)

module _ {k : ℕ} {text found : List ℕ} {i column : ℕ} {rest : List ℕ} (old : Sofar k text found i column rest) where
  next : i < k → (w : Word) → w ≡ numeral rest → read k 2 text ≡ prepend (take i found) (taken w column (λ n. read (k - (i + 1)) (column + (n + 1)) (drop (n + 1) rest)))
  next h w e =
      let one : k - i ≡ suc (k - (i + 1)) = omega arith in
      old.same ∙ ap (λ m. prepend (take i found) (read m column rest)) one ∙ ap (λ v. prepend (take i found) (taken v column (λ n. read (k - (i + 1)) (column + (n + 1)) (drop (n + 1) rest)))) (sym e)

  pub one_more : (ds : List ℕ) (n : ℕ) → i < k → number ds ≡ numeral rest → Some n ≡ worth ds → length ds + 1 ≤ length rest → Sofar k text (set found i n) (i + 1) (column + (length ds + 1)) (take (length rest - (length ds + 1)) (drop (length ds + 1) rest))
  one_more ds n h e some fits =
      let inside : i < length found = omega (arith, old.room) in
      record {
        columns = rw (take_rest, length-drop) (omega (arith, old.columns));
        room = length-set found i n ∙ old.room;
        same = next h (number ds) e
            ∙ ap (λ o. prepend (take i found) (counted o (column + 1) (read (k - (i + 1)) (column + (length ds + 1)) (drop (length ds + 1) rest)))) (sym some)
            ∙ prepend_prepend (take i found) (n ∷ []) _
            ∙ rw (take_more_set, take_rest) refl;
      }
