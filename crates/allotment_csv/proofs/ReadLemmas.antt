-- What one read of a record takes from the records that a reader has yet to give. For `open` and `next_record`.
use Rattle.std.proofs.Common.{◌≡◌, ℕ, zero, suc, ◌+◌, ◌<◌, ◌⊎◌, inl, inr, Bool, true, false, List, [], ◌∷◌, ◌++◌, length, refl, sym, ap, subst, ◌∙◌, arith, Bor, if◌then◌else◌, Option, Some, None, IsSome, MatchBool, unwrap_or}
use Rattle.csv.specs.declared.parser.Config.{Config}
use Rattle.csv.specs.declared.parser.State.{State}
use Rattle.csv.specs.declared.parser.State.TheVariants as st
use Rattle.csv.specs.declared.reader.Reader.{Reader}
use Rattle.csv.specs.Machine.{Read, next_record, ends_at_end, is_end, step, fields_after, field_after}
use Rattle.csv.specs.Reading.{records_from, records_next, Reached, ReadRecord, default_config, took_first}
use Rattle.csv.proofs.ReadFacts.{rows-end, rows-more}
use Rattle.allotment_csv.specs.Reading.{bytes_left, records_on, records_left, IsReading}

-- a read left fewer bytes than there were, or took all and stands at the start
abbrev Shrinks : List ℕ → Read → Type 0
Shrinks xs p = (length p.2 < length xs) ⊎ ((p.1 ≡ st.StartRecord) × (p.2 ≡ []))

-- at the end of the bytes
at_end : (b : Bool) (row : List (List ℕ)) (xs : List ℕ) (p : Read)
    → (if b then Some (row, st.StartRecord, []) else None) ≡ Some p → Shrinks xs p
at_end b row xs p e = grind arith

-- at a byte, which ends the record or not
at_byte : (b : Bool) (row : List (List ℕ)) (s : State) (c : ℕ) (rest : List ℕ) (later : Option Read) (p : Read)
    → (later ≡ Some p → Shrinks rest p) → (if b then Some (row, s, rest) else later) ≡ Some p
    → Shrinks (c ∷ rest) p
at_byte b row s c rest later p h e = grind arith

-- each read shrinks what is left
read_shrinks : (cfg : Config) (s : State) (fields : List (List ℕ)) (field xs : List ℕ) (p : Read)
    → next_record cfg s fields field xs ≡ Some p → Shrinks xs p
unfolding next_record
read_shrinks cfg s fields field [] p e = at_end (ends_at_end s) (fields ++ (field ∷ [])) [] p e
read_shrinks cfg s fields field (c ∷ rest) p e =
    at_byte (is_end (step cfg s c).1) _ _ c rest _ p
    (read_shrinks cfg (step cfg s c).0 (fields_after (step cfg s c).1 fields field) (field_after (step cfg s c).1 c field) rest p) e

-- so many reads are enough
abbrev Suffices : ℕ → State → List ℕ → Type 0
Suffices n s xs = (length xs < n) ⊎ ((s ≡ st.StartRecord) × (xs ≡ []))

-- at the start and without bytes there is no record
none_at_start : (cfg : Config) (s : State) (xs : List ℕ) → s ≡ st.StartRecord → xs ≡ []
    → next_record cfg s [] [] xs ≡ None
unfolding next_record
none_at_start cfg s xs a b = cc

-- where no read suffices there is no record
none_at_zero : (cfg : Config) (s : State) (xs : List ℕ) → Suffices 0 s xs → next_record cfg s [] [] xs ≡ None
none_at_zero cfg s xs h = grind (arith, none_at_start)

-- after a read, one read fewer suffices
suffices_next : (cfg : Config) (n : ℕ) (s : State) (xs : List ℕ) (p : Read)
    → next_record cfg s [] [] xs ≡ Some p → Suffices (suc n) s xs → Suffices n p.1 p.2
suffices_next cfg n s xs p e h =
    elim (read_shrinks cfg s [] [] xs p e) [
      | inl less ↦ elim h [
        | inl more ↦ inl (omega arith)
        | inr start ↦
            let nothing : length xs ≡ 0 = ap length start.1 in absurd (omega arith)
      ]
      | inr all ↦ inr all
    ]

-- two ways to read on that agree after each record agree
agree : (f g : State → List ℕ → List (List (List ℕ))) (o : Option Read)
    → ((p : Read) → o ≡ Some p → f p.1 p.2 ≡ g p.1 p.2) → records_next f o ≡ records_next g o
agree f g o h = grind arith

-- however many reads there may be, once they suffice they give the same
enough : (cfg : Config) (n m : ℕ) (s : State) (xs : List ℕ) → Suffices n s xs → Suffices m s xs
    → records_from cfg n s xs ≡ records_from cfg m s xs
unfolding records_from
enough cfg zero zero s xs h k = refl
enough cfg zero (suc m) s xs h k = sym (ap (records_next (records_from cfg m)) (none_at_zero cfg s xs h))
enough cfg (suc n) zero s xs h k = ap (records_next (records_from cfg n)) (none_at_zero cfg s xs k)
enough cfg (suc n) (suc m) s xs h k =
    agree (records_from cfg n) (records_from cfg m) (next_record cfg s [] [] xs)
    (λ p e. enough cfg n m p.1 p.2 (suffices_next cfg n s xs p e h) (suffices_next cfg m s xs p e k))

-- what is read first, and then what is read on
first_and_on : (cfg : Config) (n : ℕ) (s : State) (xs : List ℕ) (p : Read) → Suffices (suc n) s xs
    → next_record cfg s [] [] xs ≡ Some p
    → records_from cfg (suc n) s xs ≡ p.0 ∷ records_from cfg (length p.2 + 1) p.1 p.2
unfolding records_from
first_and_on cfg n s xs p h e =
    ap (records_next (records_from cfg n)) e
    ∙ ap (λ later. p.0 ∷ later)
    (enough cfg n (length p.2 + 1) p.1 p.2 (suffices_next cfg n s xs p e h) (inl (omega arith)))

-- one more
one_more : (n : ℕ) → n + 1 ≡ suc n
one_more n = omega arith

-- the records from a state on are the next one and the later ones
records_on-more : (s : State) (xs : List ℕ) (p : Read) → next_record default_config s [] [] xs ≡ Some p
    → records_on s xs ≡ p.0 ∷ records_on p.1 p.2
records_on-more s xs p e =
    ap (λ n. records_from default_config n s xs) (one_more (length xs))
    ∙ first_and_on default_config (length xs) s xs p (inl (omega arith)) e

-- where there is no next record there are no more
none_on : (n : ℕ) (s : State) (xs : List ℕ) → next_record default_config s [] [] xs ≡ None
    → records_from default_config (suc n) s xs ≡ []
unfolding records_from
none_on n s xs e = ap (records_next (records_from default_config n)) e

records_on-none : (s : State) (xs : List ℕ) → next_record default_config s [] [] xs ≡ None → records_on s xs ≡ []
records_on-none s xs e = search (arith, one_more, none_on)

-- what is reached by one record
one_reached : (s s2 : State) (xs ys : List ℕ) (fields : List (List ℕ))
    → Reached default_config s xs (fields ∷ []) s2 ys → records_on s xs ≡ fields ∷ records_on s2 ys
unfolding Reached
one_reached s s2 xs ys fields r = cc (records_on-more s xs r.0 r.1)

-- nothing is reached by no record
none_reached : (s : State) (xs : List ℕ) → Reached default_config s xs [] s xs
unfolding Reached
none_reached s xs = (refl, refl)

-- the bytes that are known
known_bytes : (o : Option (List ℕ)) → IsSome o → (y : List ℕ) × (o ≡ Some y)
known_bytes o h = grind arith

-- a read of a reader: the record that it found, or that there is none
pub next_left : (old new : Reader (Bor (List ℕ))) (found : Bool) (fields : List (List ℕ))
    → IsReading old → took_first new ≡ true → ReadRecord (λ (s : Bor (List ℕ)). Some s.now) old new found fields
    → MatchBool found ((records_left old ≡ fields ∷ records_left new) × IsReading new) (records_left old ≡ [])
next_left old new true fields reading first r =
    let known = known_bytes (bytes_left old) reading.known in
    let more = rows-more (λ (s : Bor (List ℕ)). Some s.now) old new fields default_config old.state known.0 known.0 []
    reading.defaults known.1 (none_reached old.state known.0) r in (
      ap (λ o. records_on old.state (unwrap_or o [])) known.1
          ∙ one_reached old.state new.state known.0 more.0 fields more.2
          ∙ ap (λ o. fields ∷ records_on new.state (unwrap_or o [])) (sym more.1),
      record {
        untrimmed = r.3 ∙ reading.untrimmed;
        ready = inl first;
        defaults = r.2 ∙ reading.defaults;
        known = subst (λ o. IsSome o) (sym more.1) refl;
      },
    )
next_left old new false fields reading first r = grind (arith, known_bytes, records_on-none, rows-end)
