-- Bytes that are no dump, made of the parts of P10's dump, each with its refusal and its offset, as document 02 (CR 4) has them. A wrong
-- rule gives one of them another answer.
use Rattle.std.specs.Prelude.{ℕ, ◌≡◌, refl, List, [], ◌∷◌, ◌++◌, map}
use Rattle.rules.specs.Numbers.{small}
use Rattle.rules.specs.Words.{Verdict}
use Rattle.rules.specs.Faults.{verdict}
use Rattle.rules.specs.Opened.{opened}

-- some bytes, and what reading them answers
pub record Judged : Type 0 where
  pub bytes : List ℕ
  pub refusal : ℕ
  pub offset : ℕ

infix 20 ◌gives◌at◌
abbrev ◌gives◌at◌ : List ℕ → ℕ → ℕ → Judged
bytes gives n at o = record { bytes = bytes; refusal = n; offset = o }

-- ---- the parts: field 1 stands at 0, field 2 at 12, 3 at 32 and 4 at 35; 38 bytes in all

abbrev head : ℕ → ℕ → ℕ → List ℕ
head status runner slice = 1 ∷ 0 ∷ 9 ∷ status ∷ 0 ∷ runner ∷ slice ∷ 0 ∷ 0 ∷ 0 ∷ 0 ∷ 0 ∷ []

abbrev thread : ℕ → ℕ → ℕ → ℕ → ℕ → List ℕ
thread name parent state detail manager =
    2 ∷ 0 ∷ 17 ∷ name ∷ parent ∷ state ∷ detail ∷ manager ∷ 255 ∷ 255 ∷ 0 ∷ 0 ∷ 0 ∷ 0 ∷ 0 ∷ 255 ∷ 0 ∷ 0 ∷ 0 ∷ 0 ∷ []

abbrev h : List ℕ
h = head 0 0 5

abbrev t : List ℕ
t = thread 0 255 0 0 255

abbrev none : ℕ → List ℕ
none tag = tag ∷ 0 ∷ 0 ∷ []

abbrev one : ℕ → ℕ → List ℕ
one tag name = tag ∷ 0 ∷ 1 ∷ name ∷ []

abbrev good : List ℕ
good = h ++ t ++ none 3 ++ none 4

-- ---- by number

-- "15 cut short, wrong length, or no field 1, 3 or 4": the length of the input, but for a wrong length
abbrev pub cut_or_missing : List Judged
cut_or_missing =
    ([] gives 15 at 0)
    ∷ (t ++ none 3 ++ none 4 gives 15 at 26)
    ∷ (h ++ t ++ none 4 gives 15 at 35)
    ∷ (h ++ t ++ none 3 gives 15 at 35)
    ∷ (good ++ (5 ∷ []) gives 15 at 39)
    ∷ (good ++ (5 ∷ 0 ∷ 7 ∷ 0 ∷ []) gives 15 at 42)
    ∷ (h ++ (2 ∷ 0 ∷ 1 ∷ 0 ∷ []) ++ none 3 ++ none 4 gives 15 at 12)
    ∷ (h ++ t ++ none 2 ++ none 3 ++ none 4 ++ none 5 gives 15 at 32)
    ∷ []

-- "16 unknown tag, tags out of order, or a second 1, 3 or 4". The last two have a fault of 15 too, and two faults of 16
abbrev pub out_of_place : List Judged
out_of_place =
    (good ++ none 7 gives 16 at 38)
    ∷ (h ++ none 3 ++ t ++ none 4 gives 16 at 15)
    ∷ (h ++ h ++ t ++ none 3 ++ none 4 gives 16 at 12)
    ∷ (h ++ t ++ none 3 ++ none 3 ++ none 4 gives 16 at 35)
    ∷ (good ++ none 4 gives 16 at 38)
    ∷ (none 9 ++ h ++ t ++ none 3 gives 15 at 38)
    ∷ (none 9 ++ good ++ none 9 gives 16 at 0)
    ∷ []

-- "17 value outside its range (slice, detail and answer as runner, state and kind allow)". The last but one has a fault of 16 too, the
-- last one two of 17
abbrev pub out_of_its_range : List Judged
out_of_its_range =
    (head 4 0 5 ++ t ++ none 3 ++ none 4 gives 17 at 0)
    ∷ (head 0 254 5 ++ t ++ none 3 ++ none 4 gives 17 at 0)
    ∷ (head 0 0 6 ++ t ++ none 3 ++ none 4 gives 17 at 0)
    ∷ (head 1 255 5 ++ t ++ none 3 ++ none 4 gives 17 at 0)
    ∷ (h ++ thread 254 255 0 0 255 ++ none 3 ++ none 4 gives 17 at 12)
    ∷ (h ++ thread 0 254 0 0 255 ++ none 3 ++ none 4 gives 17 at 12)
    ∷ (h ++ thread 0 255 6 0 255 ++ none 3 ++ none 4 gives 17 at 12)
    ∷ (h ++ thread 0 255 0 1 255 ++ none 3 ++ none 4 gives 17 at 12)
    ∷ (h ++ thread 0 255 2 254 255 ++ none 3 ++ none 4 gives 17 at 12)
    ∷ (h ++ thread 0 255 4 48 255 ++ none 3 ++ none 4 gives 17 at 12)
    ∷ (h ++ thread 0 255 5 3 255 ++ none 3 ++ none 4 gives 17 at 12)
    ∷ (h ++ t ++ one 3 254 ++ none 4 gives 17 at 32)
    ∷ (h ++ t ++ none 3 ++ one 4 255 gives 17 at 35)
    ∷ (good ++ (5 ∷ 0 ∷ 7 ∷ 0 ∷ 0 ∷ 3 ∷ 0 ∷ 0 ∷ 0 ∷ 0 ∷ []) gives 17 at 38)
    ∷ (good ++ (6 ∷ 0 ∷ 5 ∷ 48 ∷ 0 ∷ 0 ∷ 0 ∷ 0 ∷ []) gives 17 at 38)
    ∷ (head 4 0 5 ++ t ++ none 3 ++ none 4 ++ none 7 gives 16 at 38)
    ∷ (h ++ thread 0 254 0 0 255 ++ one 3 254 ++ none 4 gives 17 at 12)
    ∷ []

-- "18 a name not live where 01 asks for one". The last but one has a fault of 17 too, the last one two of 18
abbrev pub not_live : List Judged
not_live =
    (head 0 1 5 ++ t ++ none 3 ++ none 4 gives 18 at 0)
    ∷ (h ++ thread 0 1 0 0 255 ++ none 3 ++ none 4 gives 18 at 12)
    ∷ (h ++ thread 0 255 2 1 255 ++ none 3 ++ none 4 gives 18 at 12)
    ∷ (h ++ thread 0 255 0 0 1 ++ none 3 ++ none 4 gives 18 at 12)
    ∷ (h ++ thread 0 255 5 0 255 ++ none 3 ++ none 4 gives 18 at 12)
    ∷ (h ++ thread 0 255 5 0 254 ++ none 3 ++ none 4 gives 18 at 12)
    ∷ (h ++ t ++ one 3 1 ++ none 4 gives 18 at 32)
    ∷ (h ++ t ++ none 3 ++ one 4 1 gives 18 at 35)
    ∷ (good ++ (5 ∷ 0 ∷ 7 ∷ 1 ∷ 0 ∷ 1 ∷ 0 ∷ 0 ∷ 0 ∷ 0 ∷ []) gives 18 at 38)
    ∷ (good ++ (5 ∷ 0 ∷ 7 ∷ 0 ∷ 1 ∷ 1 ∷ 0 ∷ 0 ∷ 0 ∷ 0 ∷ []) gives 18 at 38)
    ∷ (h ++ t ++ one 3 1 ++ one 4 254 gives 17 at 36)
    ∷ (h ++ t ++ one 3 1 ++ one 4 1 gives 18 at 32)
    ∷ []

-- "19 any other rule, rising order included": a name twice, threads that do not rise, a runner that is ready, another status, the own
-- name as manager
abbrev pub any_other_rule : List Judged
any_other_rule =
    (h ++ t ++ t ++ none 3 ++ none 4 gives 19 at 0)
    ∷ (h ++ thread 1 0 3 0 255 ++ t ++ none 3 ++ one 4 1 gives 19 at 0)
    ∷ (h ++ t ++ one 3 0 ++ none 4 gives 19 at 0)
    ∷ (head 1 0 5 ++ t ++ none 3 ++ none 4 gives 19 at 0)
    ∷ (h ++ thread 0 255 0 0 0 ++ none 3 ++ none 4 gives 19 at 0)
    ∷ (good gives 0 at 0)
    ∷ []

abbrev pub bad_dumps : List Judged
bad_dumps = cut_or_missing ++ out_of_place ++ out_of_its_range ++ not_live ++ any_other_rule

abbrev answer : Verdict → List ℕ
answer v = v.refusal ∷ v.offset ∷ []

pub each_is_judged : map (λ b. answer (verdict small b.bytes)) bad_dumps ≡ map (λ b. b.refusal ∷ b.offset ∷ []) bad_dumps
unfolding opened
each_is_judged = refl
