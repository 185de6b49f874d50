-- Small sheets read by the definitions themselves, from their bytes to the tree or the refusal.
use Rattle.std.proofs.Common.{◌≡◌, ℕ, true, List, [], ◌∷◌, ◌++◌, replicate, pos, codes, refl}
use Rattle.faults.specs.declared.causes.ReaderCause.TheVariants.{NoToken, NumberTooLarge, UnlistedName, Unexpected, TooManyOpen}
use Rattle.arith.specs.declared.operator.Operator.TheVariants.{Sub, Div}
use Rattle.arith.specs.declared.comparison.Comparison.TheVariants.{Greater, LessOrEqual}
use Rattle.scanner.specs.Tokens.{tokens_at}
use Rattle.tables.specs.Trees.{number, name, work, both, either, truth, compare, negate, connect, set, when, choose, while, only, joint}
use Rattle.grammar.specs.Lexemes.{lexemes}
use Rattle.grammar.specs.Machine.{State, done, refused, run, start}

abbrev points : List (List ℕ)
points = codes "locked" ∷ codes "weight" ∷ codes "back" ∷ []

-- what a sheet over these points is read as
abbrev reads : List ℕ → State
reads sheet = run (lexemes points sheet) 0 start

quotient : reads (codes "back = 7 / 2;") ≡ done (only (set 0 2 (work 9 Div (number 7 (pos 7)) (number 11 (pos 2)))))
unfolding tokens_at
quotient = refl

grouped : reads (codes "back = (0 - 7) / 2;") ≡ done (only (set 0 2 (work 15 Div (work 10 Sub (number 8 (pos 0)) (number 12 (pos 7))) (number 17 (pos 2)))))
unfolding tokens_at
grouped = refl

-- sums group from the left
thrice : reads (codes "back=5-2-1;") ≡ done (only (set 0 2 (work 8 Sub (work 6 Sub (number 5 (pos 5)) (number 7 (pos 2))) (number 9 (pos 1)))))
unfolding tokens_at
thrice = refl

-- conditions group from the right, && within ||
linked : reads (codes "if(!true||true&&true||1<=2){back=1;}")
    ≡ done (only (when 0 (connect 8 either (negate 3 (truth 4 true)) (connect 20 either (connect 14 both (truth 10 true) (truth 16 true)) (compare 23 LessOrEqual (number 22 (pos 1)) (number 25 (pos 2))))) (only (set 28 2 (number 33 (pos 1))))))
unfolding tokens_at
linked = refl

-- a bracket that opens a sum, and one that opens a condition
brackets : reads (codes "if((1)>1&&(1>(1))){back=1;}else{back=2;}")
    ≡ done (only (choose 0 (connect 8 both (compare 6 Greater (number 4 (pos 1)) (number 7 (pos 1))) (compare 12 Greater (number 11 (pos 1)) (number 14 (pos 1)))) (only (set 19 2 (number 24 (pos 1)))) (only (set 32 2 (number 37 (pos 2))))))
unfolding tokens_at
brackets = refl

counting : reads (codes "back = 2; while (back > 0) { back = back - 1; }")
    ≡ done (joint 10 (set 0 2 (number 7 (pos 2))) (only (while 10 (compare 22 Greater (name 17 2) (number 24 (pos 0))) (only (set 29 2 (work 41 Sub (name 36 2) (number 43 (pos 1))))))))
unfolding tokens_at
counting = refl

-- commands a b c are a, and then b and c, each joined at the later one's place
three : reads (codes "back=1;back=2;back=3;")
    ≡ done (joint 7 (set 0 2 (number 5 (pos 1))) (joint 14 (set 7 2 (number 12 (pos 2))) (only (set 14 2 (number 19 (pos 3))))))
unfolding tokens_at
three = refl

early : reads (codes "back = 1 + ;") ≡ refused Unexpected 11
unfolding tokens_at
early = refl

no-comparison : reads (codes "if (back) { back = 1; }") ≡ refused Unexpected 8
unfolding tokens_at
no-comparison = refl

large : reads (codes "back = 2147483648;") ≡ refused NumberTooLarge 7
unfolding tokens_at
large = refl

largest : reads (codes "back=2147483647;") ≡ done (only (set 0 2 (number 5 (pos 2147483647))))
unfolding tokens_at
largest = refl

unlisted : reads (codes "front = 1;") ≡ refused UnlistedName 0
unfolding tokens_at
unlisted = refl

-- a reserved word names no point
reserved : reads (codes "back = if;") ≡ refused Unexpected 7
unfolding tokens_at
reserved = refl

stray : reads (codes "back = 1 & 2;") ≡ refused NoToken 9
unfolding tokens_at
stray = refl

nothing : reads (codes "  ") ≡ refused Unexpected 2
unfolding tokens_at
nothing = refl

empty_block : reads (codes "if (true) { }") ≡ refused Unexpected 12
unfolding tokens_at
empty_block = refl

lone-else : reads (codes "back = 1; else { back = 2; }") ≡ refused Unexpected 10
unfolding tokens_at
lone-else = refl

-- 32 brackets may be open, the 33rd may not
deepest : reads (codes "back=" ++ (replicate 32 40 ++ (codes "1" ++ (replicate 32 41 ++ codes ";")))) ≡ done (only (set 0 2 (number 37 (pos 1))))
unfolding tokens_at
deepest = refl

too-deep : reads (codes "back=" ++ replicate 33 40) ≡ refused TooManyOpen 37
unfolding tokens_at
too-deep = refl
