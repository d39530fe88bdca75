-- What the encoder's inner functions promise each other, and the crates above.
use Rattle.std.specs.Prelude.{◌≡◌, List, [], ◌∷◌, ◌++◌, ℕ, ◌/◌, ◌%◌, length, take, replicate}
use Rattle.code.specs.Inside.{PowerSums}
use Rattle.encoder.specs.Register.{checks_of}
use Rattle.encoder.specs.Interpolation.{ChecksWith}

-- the 52 characters of addresses 0 to 51: the text, the high six bits of the number, the low six
unfoldable pub information : List ℕ → ℕ → List ℕ
information t n = t ++ n / 64 ∷ n % 64 ∷ []

-- they and eleven zeros, a number's low twelve bits counting; zeros for a text that is not 50 long
pub record InformationOf (t : List ℕ) (n : ℕ) (w : List ℕ) : Type 0 where
  pub is : length t ≡ 50 → w ≡ information t (n % 4096) ++ replicate 11 0
  pub none : (length t ≡ 50 → ⊥) → w ≡ replicate 63 0

-- the first 52 characters of a word, and checks with the sums of the word, marks added: where it ends in eleven zeros, a line
pub record Ended (w l : List ℕ) : Type 0 where
  pub sums : List ℕ
  pub checks : List ℕ
  pub of_word : PowerSums w sums
  pub with_sums : ChecksWith sums checks
  pub is : l ≡ take 52 w ++ checks_of checks

-- it is put over an output of 63 bytes; another output is as it was
pub record LinePut (w old new : List ℕ) : Type 0 where
  pub over : length old ≡ 63 → Ended w new
  pub beside : (length old ≡ 63 → ⊥) → new ≡ old
