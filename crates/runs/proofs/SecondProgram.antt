-- What the second program (second/) wrote for a pool of three servers with the sheet 17, 18 3, 19 2 comes out of the
-- definitions, byte for byte: circuit, share messages, both rounds, closing messages and joined totals. Assumes nothing.
use mathlib.Core.Path.{◌≡◌, refl}
use mathlib.Core.Bool.{true}
use mathlib.Core.List.{List, [], ◌∷◌, ◌++◌}
use Prim.Native.Nat.{ℕ, ◌*◌}
use Rattle.words.specs.Bytes.{same_bytes, part}
use Rattle.rules.specs.Settings.{Setting, document01}
use Rattle.rules.specs.CircuitReader.{sheet_circuit}
use Rattle.rules.specs.Making.{make_bytes, make_refusal}
use Rattle.rules.specs.Table.{Lent, opened_table, share_table, share_bytes, one_table, one_bytes, two_table, two_verdict, enter_table, close_bytes}
use Rattle.rules.specs.Joining.{join_bytes}
use Rattle.rules.proofs.Computed.Computing.{everything}
use Rattle.runs.proofs.TwoServers.{lent}

abbrev sheet : List ℕ
sheet =
    17 ∷ 18 ∷ 3 ∷ 19 ∷ 2 ∷ []

abbrev values : List ℕ
values =
    1 ∷ 0 ∷ 0 ∷ 0 ∷ 2 ∷ 0 ∷ 0 ∷ 0 ∷ 3 ∷ 0 ∷ 0 ∷ 0 ∷ []

abbrev random : List ℕ
random =
    226 ∷ 203 ∷ 132 ∷ 35 ∷ 155 ∷ 15 ∷ 232 ∷ 92 ∷ 124 ∷ 20 ∷ 23 ∷ 81 ∷ 195 ∷ 248 ∷ 239 ∷ 62 ∷ 174 ∷ 133 ∷ 187 ∷ 98
    ∷ 174 ∷ 5 ∷ 236 ∷ 92 ∷ 31 ∷ 125 ∷ 3 ∷ 60 ∷ 196 ∷ 0 ∷ 214 ∷ 21 ∷ 177 ∷ 125 ∷ 26 ∷ 91 ∷ 30 ∷ 184 ∷ 26 ∷ 88 ∷ 150
    ∷ 98 ∷ 35 ∷ 86 ∷ 185 ∷ 184 ∷ 42 ∷ 26 ∷ 237 ∷ 49 ∷ 133 ∷ 125 ∷ 85 ∷ 168 ∷ 17 ∷ 110 ∷ 170 ∷ 21 ∷ 124 ∷ 115 ∷ 32
    ∷ 156 ∷ 57 ∷ 34 ∷ 85 ∷ 232 ∷ 213 ∷ 108 ∷ 217 ∷ 211 ∷ 27 ∷ 98 ∷ 200 ∷ 66 ∷ 31 ∷ 61 ∷ 205 ∷ 135 ∷ 129 ∷ 25 ∷ 32
    ∷ 141 ∷ 21 ∷ 95 ∷ 252 ∷ 224 ∷ 173 ∷ 112 ∷ 204 ∷ 98 ∷ 90 ∷ 34 ∷ 154 ∷ 50 ∷ 11 ∷ 17 ∷ 44 ∷ 117 ∷ 106 ∷ 62 ∷ 145 ∷ 31
    ∷ 132 ∷ 11 ∷ 0 ∷ 47 ∷ 252 ∷ 117 ∷ 217 ∷ 238 ∷ 98 ∷ 26 ∷ 32 ∷ 238 ∷ 170 ∷ 100 ∷ 54 ∷ 24 ∷ 91 ∷ 66 ∷ 244 ∷ 143 ∷ 170
    ∷ 118 ∷ 38 ∷ 72 ∷ 254 ∷ 10 ∷ 118 ∷ 69 ∷ 6 ∷ 97 ∷ 226 ∷ 3 ∷ 132 ∷ 77 ∷ 121 ∷ 149 ∷ 152 ∷ 63 ∷ 81 ∷ 184 ∷ 0 ∷ 20
    ∷ 193 ∷ 142 ∷ 194 ∷ 51 ∷ 25 ∷ 198 ∷ 131 ∷ 74 ∷ 198 ∷ 113 ∷ 22 ∷ 101 ∷ 142 ∷ 138 ∷ 23 ∷ 115 ∷ 232 ∷ 86 ∷ 231 ∷ 19
    ∷ 245 ∷ 8 ∷ 12 ∷ 2 ∷ 233 ∷ 239 ∷ 76 ∷ 123 ∷ 212 ∷ 212 ∷ 41 ∷ 96 ∷ 31 ∷ 32 ∷ 170 ∷ 111 ∷ 218 ∷ 89 ∷ 159 ∷ 79 ∷ 27
    ∷ 190 ∷ 255 ∷ 127 ∷ 174 ∷ 193 ∷ 119 ∷ 79 ∷ 77 ∷ 109 ∷ 33 ∷ 86 ∷ 239 ∷ 24 ∷ 241 ∷ 40 ∷ 219 ∷ 173 ∷ 252 ∷ 108 ∷ 236
    ∷ 145 ∷ 210 ∷ 112 ∷ 18 ∷ 121 ∷ 201 ∷ 40 ∷ 46 ∷ 21 ∷ 116 ∷ 61 ∷ []

abbrev made : List ℕ
made =
    33 ∷ 4 ∷ 3 ∷ 2 ∷ 1 ∷ 0 ∷ 27 ∷ 98 ∷ 233 ∷ 90 ∷ 92 ∷ 106 ∷ 105 ∷ 44 ∷ 186 ∷ 58 ∷ 254 ∷ 56 ∷ 198 ∷ 185 ∷ 35 ∷ 9
    ∷ 110 ∷ 126 ∷ 97 ∷ 87 ∷ 104 ∷ 178 ∷ 76 ∷ 104 ∷ 25 ∷ 229 ∷ 219 ∷ 21 ∷ 103 ∷ 132 ∷ 151 ∷ 85 ∷ 148 ∷ 23 ∷ 223 ∷ 20
    ∷ 74 ∷ 109 ∷ 201 ∷ 12 ∷ 198 ∷ 95 ∷ 108 ∷ 25 ∷ 247 ∷ 12 ∷ 223 ∷ 73 ∷ 181 ∷ 14 ∷ 30 ∷ 17 ∷ 60 ∷ 60 ∷ 151 ∷ 34 ∷ 98
    ∷ 232 ∷ 182 ∷ 98 ∷ 18 ∷ 88 ∷ 212 ∷ 118 ∷ 19 ∷ 162 ∷ 48 ∷ 55 ∷ 7 ∷ 251 ∷ 130 ∷ 40 ∷ 183 ∷ 196 ∷ 113 ∷ 120 ∷ 188
    ∷ 219 ∷ 0 ∷ 102 ∷ 51 ∷ 91 ∷ 20 ∷ 115 ∷ 157 ∷ 242 ∷ 74 ∷ 125 ∷ 142 ∷ 83 ∷ 72 ∷ 106 ∷ 215 ∷ 144 ∷ 195 ∷ 123 ∷ 193
    ∷ 235 ∷ 240 ∷ 77 ∷ 33 ∷ 4 ∷ 3 ∷ 2 ∷ 1 ∷ 1 ∷ 174 ∷ 133 ∷ 187 ∷ 98 ∷ 174 ∷ 5 ∷ 236 ∷ 92 ∷ 31 ∷ 125 ∷ 3 ∷ 60 ∷ 196
    ∷ 0 ∷ 214 ∷ 21 ∷ 177 ∷ 125 ∷ 26 ∷ 91 ∷ 30 ∷ 184 ∷ 26 ∷ 88 ∷ 150 ∷ 98 ∷ 35 ∷ 86 ∷ 185 ∷ 184 ∷ 42 ∷ 26 ∷ 237 ∷ 49
    ∷ 133 ∷ 125 ∷ 85 ∷ 168 ∷ 17 ∷ 110 ∷ 170 ∷ 21 ∷ 124 ∷ 115 ∷ 32 ∷ 156 ∷ 57 ∷ 34 ∷ 85 ∷ 232 ∷ 213 ∷ 108 ∷ 217 ∷ 211
    ∷ 27 ∷ 98 ∷ 200 ∷ 66 ∷ 31 ∷ 61 ∷ 205 ∷ 135 ∷ 129 ∷ 25 ∷ 32 ∷ 141 ∷ 21 ∷ 95 ∷ 252 ∷ 224 ∷ 173 ∷ 112 ∷ 204 ∷ 98 ∷ 90
    ∷ 34 ∷ 154 ∷ 50 ∷ 11 ∷ 17 ∷ 44 ∷ 117 ∷ 106 ∷ 62 ∷ 145 ∷ 31 ∷ 132 ∷ 11 ∷ 0 ∷ 47 ∷ 252 ∷ 117 ∷ 217 ∷ 238 ∷ 98 ∷ 26
    ∷ 32 ∷ 238 ∷ 170 ∷ 100 ∷ 33 ∷ 4 ∷ 3 ∷ 2 ∷ 1 ∷ 2 ∷ 54 ∷ 24 ∷ 91 ∷ 66 ∷ 244 ∷ 143 ∷ 170 ∷ 118 ∷ 38 ∷ 72 ∷ 254 ∷ 10
    ∷ 118 ∷ 69 ∷ 6 ∷ 97 ∷ 226 ∷ 3 ∷ 132 ∷ 77 ∷ 121 ∷ 149 ∷ 152 ∷ 63 ∷ 81 ∷ 184 ∷ 0 ∷ 20 ∷ 193 ∷ 142 ∷ 194 ∷ 51 ∷ 25
    ∷ 198 ∷ 131 ∷ 74 ∷ 198 ∷ 113 ∷ 22 ∷ 101 ∷ 142 ∷ 138 ∷ 23 ∷ 115 ∷ 232 ∷ 86 ∷ 231 ∷ 19 ∷ 245 ∷ 8 ∷ 12 ∷ 2 ∷ 233
    ∷ 239 ∷ 76 ∷ 123 ∷ 212 ∷ 212 ∷ 41 ∷ 96 ∷ 31 ∷ 32 ∷ 170 ∷ 111 ∷ 218 ∷ 89 ∷ 159 ∷ 79 ∷ 27 ∷ 190 ∷ 255 ∷ 127 ∷ 174
    ∷ 193 ∷ 119 ∷ 79 ∷ 77 ∷ 109 ∷ 33 ∷ 86 ∷ 239 ∷ 24 ∷ 241 ∷ 40 ∷ 219 ∷ 173 ∷ 252 ∷ 108 ∷ 236 ∷ 145 ∷ 210 ∷ 112 ∷ 18
    ∷ 121 ∷ 201 ∷ 40 ∷ 46 ∷ 21 ∷ 116 ∷ 61 ∷ []

abbrev joined_one : List ℕ
joined_one =
    34 ∷ 4 ∷ 3 ∷ 2 ∷ 1 ∷ 0 ∷ 172 ∷ 101 ∷ 234 ∷ 70 ∷ 205 ∷ 25 ∷ 94 ∷ 105 ∷ 67 ∷ 66 ∷ 15 ∷ 0 ∷ 77 ∷ 0 ∷ 0 ∷ 0 ∷ 34 ∷ 4 ∷ 3
    ∷ 2 ∷ 1 ∷ 1 ∷ 195 ∷ 32 ∷ 21 ∷ 49 ∷ 242 ∷ 147 ∷ 146 ∷ 89 ∷ 67 ∷ 66 ∷ 15 ∷ 0 ∷ 77 ∷ 0 ∷ 0 ∷ 0 ∷ 34 ∷ 4 ∷ 3 ∷ 2 ∷ 1 ∷ 2
    ∷ 179 ∷ 188 ∷ 239 ∷ 38 ∷ 52 ∷ 26 ∷ 114 ∷ 75 ∷ 67 ∷ 66 ∷ 15 ∷ 0 ∷ 77 ∷ 0 ∷ 0 ∷ 0 ∷ []

abbrev joined_two : List ℕ
joined_two =
    35 ∷ 4 ∷ 3 ∷ 2 ∷ 1 ∷ 0 ∷ 183 ∷ 207 ∷ 82 ∷ 86 ∷ 183 ∷ 2 ∷ 38 ∷ 119 ∷ 35 ∷ 4 ∷ 3 ∷ 2 ∷ 1 ∷ 1 ∷ 8 ∷ 250 ∷ 21 ∷ 107
    ∷ 213 ∷ 150 ∷ 189 ∷ 16 ∷ 35 ∷ 4 ∷ 3 ∷ 2 ∷ 1 ∷ 2 ∷ 63 ∷ 54 ∷ 151 ∷ 62 ∷ 114 ∷ 102 ∷ 28 ∷ 120 ∷ []

abbrev closings : List ℕ
closings =
    36 ∷ 0 ∷ 1 ∷ 0 ∷ 0 ∷ 0 ∷ 27 ∷ 98 ∷ 233 ∷ 90 ∷ 92 ∷ 106 ∷ 105 ∷ 44 ∷ 186 ∷ 58 ∷ 254 ∷ 56 ∷ 198 ∷ 185 ∷ 35 ∷ 9
    ∷ 110 ∷ 126 ∷ 97 ∷ 87 ∷ 36 ∷ 1 ∷ 1 ∷ 0 ∷ 0 ∷ 0 ∷ 174 ∷ 133 ∷ 187 ∷ 98 ∷ 174 ∷ 5 ∷ 236 ∷ 92 ∷ 31 ∷ 125 ∷ 3 ∷ 60
    ∷ 196 ∷ 0 ∷ 214 ∷ 21 ∷ 177 ∷ 125 ∷ 26 ∷ 91 ∷ 36 ∷ 2 ∷ 1 ∷ 0 ∷ 0 ∷ 0 ∷ 54 ∷ 24 ∷ 91 ∷ 66 ∷ 244 ∷ 143 ∷ 170 ∷ 118
    ∷ 38 ∷ 72 ∷ 254 ∷ 10 ∷ 118 ∷ 69 ∷ 6 ∷ 97 ∷ 226 ∷ 3 ∷ 132 ∷ 77 ∷ []

abbrev totals : List ℕ
totals =
    1 ∷ 0 ∷ 0 ∷ 0 ∷ 0 ∷ 0 ∷ 0 ∷ 0 ∷ 0 ∷ 0 ∷ 0 ∷ 0 ∷ 1 ∷ 0 ∷ 0 ∷ 0 ∷ 3 ∷ 0 ∷ 0 ∷ 0 ∷ []

abbrev circuit_is : List ℕ
circuit_is =
    1 ∷ 254 ∷ 255 ∷ 255 ∷ 127 ∷ 2 ∷ 0 ∷ 0 ∷ 3 ∷ 1 ∷ 0 ∷ 0 ∷ 0 ∷ 5 ∷ 1 ∷ 0 ∷ 2 ∷ 0 ∷ 6 ∷ 3 ∷ 0 ∷ 2 ∷ 1 ∷ 0 ∷ 3 ∷ 4
    ∷ 0 ∷ 0 ∷ 0 ∷ 5 ∷ 4 ∷ 0 ∷ 5 ∷ 0 ∷ 6 ∷ 6 ∷ 0 ∷ 2 ∷ 2 ∷ 0 ∷ 3 ∷ 7 ∷ 0 ∷ 0 ∷ 0 ∷ 5 ∷ 7 ∷ 0 ∷ 8 ∷ 0 ∷ 6 ∷ 9 ∷ 0 ∷ 2
    ∷ 3 ∷ 0 ∷ 3 ∷ 10 ∷ 0 ∷ 0 ∷ 0 ∷ 5 ∷ 10 ∷ 0 ∷ 11 ∷ 0 ∷ 6 ∷ 12 ∷ 0 ∷ 3 ∷ 0 ∷ 0 ∷ 4 ∷ 0 ∷ 3 ∷ 13 ∷ 0 ∷ 7 ∷ 0 ∷ 3 ∷ 14
    ∷ 0 ∷ 10 ∷ 0 ∷ 6 ∷ 15 ∷ 0 ∷ 2 ∷ 4 ∷ 0 ∷ 2 ∷ 5 ∷ 0 ∷ 3 ∷ 17 ∷ 0 ∷ 0 ∷ 0 ∷ 5 ∷ 17 ∷ 0 ∷ 18 ∷ 0 ∷ 6 ∷ 19 ∷ 0 ∷ 2 ∷ 6
    ∷ 0 ∷ 3 ∷ 20 ∷ 0 ∷ 0 ∷ 0 ∷ 5 ∷ 20 ∷ 0 ∷ 21 ∷ 0 ∷ 6 ∷ 22 ∷ 0 ∷ 4 ∷ 16 ∷ 0 ∷ 254 ∷ 255 ∷ 255 ∷ 127 ∷ 4 ∷ 17 ∷ 0 ∷ 1
    ∷ 0 ∷ 0 ∷ 0 ∷ 3 ∷ 23 ∷ 0 ∷ 24 ∷ 0 ∷ 4 ∷ 20 ∷ 0 ∷ 2 ∷ 0 ∷ 0 ∷ 0 ∷ 3 ∷ 25 ∷ 0 ∷ 26 ∷ 0 ∷ 6 ∷ 27 ∷ 0 ∷ []

abbrev σ : Setting
σ = document01

-- the share message of server i, and its table after opening, the share, both rounds and the entry
abbrev share_of : ℕ → List ℕ
share_of i = part (106 * i) 106 made

abbrev opened : ℕ → Lent
opened i = opened_table σ 3 i sheet 5 1 (lent 59 216)

abbrev shared : ℕ → Lent
shared i = share_table σ (opened i) (share_of i) 1000003 77

abbrev summed : ℕ → Lent
summed i = one_table σ (shared i) 16909060 joined_one

abbrev decided : ℕ → Lent
decided i = enter_table σ (two_table σ (summed i) 16909060 joined_two) 16909060

-- what it writes for round one, for round two and at the close
abbrev one : ℕ → List ℕ
one i = share_bytes σ (opened i) (share_of i) 1000003 77

abbrev two : ℕ → List ℕ
two i = one_bytes σ (shared i) 16909060 joined_one

abbrev closing : ℕ → List ℕ
closing i = close_bytes σ (decided i)

circuit_same : same_bytes (sheet_circuit σ sheet) circuit_is ≡ true
unfolding everything sheet_circuit
circuit_same = refl

make_same : same_bytes (make_bytes σ sheet 3 16909060 values random) made ≡ true
unfolding everything
make_same = refl

make_taken : make_refusal σ sheet 3 values random 318 ≡ 0
unfolding everything
make_taken = refl

one_same : same_bytes (one 0 ++ one 1 ++ one 2) joined_one ≡ true
unfolding everything
one_same = refl

two_same : same_bytes (two 0 ++ two 1 ++ two 2) joined_two ≡ true
unfolding everything
two_same = refl

verdict : two_verdict σ (summed 1) joined_two ≡ true
unfolding everything
verdict = refl

close_same : same_bytes (closing 0 ++ closing 1 ++ closing 2) closings ≡ true
unfolding everything
close_same = refl

join_same : same_bytes (join_bytes σ 3 sheet closings) totals ≡ true
unfolding everything
join_same = refl
