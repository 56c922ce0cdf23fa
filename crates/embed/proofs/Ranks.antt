-- The ranks of threads, one after the other. Assumes nothing.
use Rattle.std.proofs.Common.{◌≡◌, ℕ, zero, suc, List, [], ◌∷◌, map, replicate, slice_index, refl, ap, ◌∙◌, sym}
use Rattle.embed.specs.Play.{numbers_from, laid}

map_shift : (f : ℕ → ℕ) (m k : ℕ) → map f (numbers_from (suc m) k) ≡ map (λ n. f (suc n)) (numbers_from m k)
map_shift f m zero = refl
map_shift f m (suc k) = ap (λ (xs : List ℕ). f (suc m) ∷ xs) (map_shift f (suc m) k)

laid_none : (k : ℕ) → laid {X = ℕ} [] (replicate k 0) ≡ replicate k 0
laid_none zero = refl
laid_none (suc k) = refl

-- ranks written to k places of 0 are the ranks of the first k threads
pub ranks_laid : (rs : List ℕ) (k : ℕ) → laid rs (replicate k 0) ≡ map (λ n. slice_index rs n) (numbers_from 0 k)
ranks_laid [] zero = refl
ranks_laid (r ∷ rs) zero = refl
ranks_laid [] (suc k) = ap (λ (xs : List ℕ). 0 ∷ xs) (sym (laid_none k) ∙ ranks_laid [] k ∙ sym (map_shift (λ n. slice_index [] n) 0 k))
ranks_laid (r ∷ rs) (suc k) = ap (λ (xs : List ℕ). r ∷ xs) (ranks_laid rs k ∙ sym (map_shift (λ n. slice_index (r ∷ rs) n) 0 k))
