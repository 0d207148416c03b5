-- The JSON of an object, form by form: which value stands for what.
use Rattle.std.specs.Prelude.{ℕ, ◌^◌, ◌<◌, ◌≡◌, ◌⊎◌, FitsSigned, List, [], ◌∷◌, length, true, codes, Option, Some, None}
use Rattle.std.specs.Int.{w64}
use Rattle.std.specs.List.{flat_map, All}
use Rattle.byteorder.specs.Endian.{little_bytes}
use Rattle.hex.specs.Hex.{encode_lower}
use Rattle.serde_json.specs.Data.{Data, boolean, number, string, array, object, unsigned, Items, no_items, item, member, no_members}
use Rattle.serde_json.specs.Find.{of_integer}
use Rattle.f77_tree.specs.Names.{is_name}
use Rattle.f77_tree.specs.declared.unit.Value.{Value}
use Rattle.f77_tree.specs.declared.unit.Value.TheVariants.{Integer, Logical}
use Rattle.obj_form.specs.declared.object.InitialRun.{InitialRun}
use Rattle.obj_form.specs.declared.object.Object.{Object}
use Rattle.obj_form.specs.declared.object.Reloc.{Reloc}
use Rattle.obj_form.specs.declared.object.Target.{Target}
use Rattle.obj_form.specs.declared.object.Target.TheVariants.{Call, Own, Block}
use Rattle.obj_form.specs.Objects.{AreRuns, ArePairs}

-- ---- arrays

abbrev pub two : Data → Data → Data
two a b = array (item a (item b no_items))

abbrev pub three : Data → Data → Data → Data
three a b c = array (item a (item b (item c no_items)))

-- each part in its place, and no others
abbrev pub Parts : {A : Type 0} → (Data → A → Type 0) → Items → List A → Type 0
Parts Is no_items [] = Unit {0}
Parts Is no_items (x ∷ xs) = ⊥
Parts Is (item d ds) [] = ⊥
Parts Is (item d ds) (x ∷ xs) = Is d x × Parts Is ds xs

abbrev pub IsArrayOf : {A : Type 0} → (Data → A → Type 0) → Data → List A → Type 0
IsArrayOf Is d xs = (ds : Items) × (d ≡ array ds) × Parts Is ds xs

-- ---- leaves

-- a number of 32 bits without sign
abbrev pub IsWord : Data → ℕ → Type 0
IsWord d n = (d ≡ number (unsigned n)) × (n < 2 ^ 32)

-- VALUE: an integer of 64 bits, or true or false
abbrev pub IsValue : Data → Value → Type 0
IsValue d (Integer z) = (d ≡ number (of_integer z)) × FitsSigned w64 z
IsValue d (Logical b) = d ≡ boolean b

-- NAME, in capitals
abbrev pub IsNamed : Data → List ℕ → Type 0
IsNamed d name = (d ≡ string name) × (is_name name ≡ true)

-- BLOCK: a name, or the empty text of blank COMMON
abbrev pub IsBlock : Data → List ℕ → Type 0
IsBlock d name = (d ≡ string name) × ((name ≡ []) ⊎ (is_name name ≡ true))

-- ---- objects

-- the words of code as bytes, in the order of the file
abbrev pub code_bytes : List ℕ → List ℕ
code_bytes words = flat_map (little_bytes 4) words

-- the code: the bytes of its words by two small hexadecimal digits each
abbrev pub IsCode : Data → List ℕ → Type 0
IsCode d words = (d ≡ string (encode_lower (code_bytes words))) × All (λ w. w < 2 ^ 32) words

-- [FROM,COUNT,VALUE]
abbrev pub IsRun : Data → InitialRun → Type 0
IsRun d run =
    (from : Data) × (count : Data) × (value : Data) × (d ≡ three from count value)
    × IsWord from run.from × IsWord count run.count × IsValue value run.value × (0 < run.count)

-- ["call",NAME] or ["own",K] or ["block",BLOCK,K]
abbrev pub IsTarget : Data → Target → Type 0
IsTarget d (Call name) = (n : Data) × (d ≡ two (string (codes "call")) n) × IsNamed n name
IsTarget d (Own k) = (n : Data) × (d ≡ two (string (codes "own")) n) × IsWord n k
IsTarget d (Block name k) = (b : Data) × (n : Data) × (d ≡ three (string (codes "block")) b n) × IsBlock b name × IsWord n k

-- [WORD,TARGET]
abbrev pub IsReloc : Data → Reloc → Type 0
IsReloc d reloc = (word : Data) × (target : Data) × (d ≡ two word target) × IsWord word reloc.word × IsTarget target reloc.target

-- the four members, in the order of their keys
abbrev pub four : Data → Data → Data → Data → Data
four code initial relocs size =
    object (member (codes "code") code (member (codes "initial") initial (member (codes "relocs") relocs (member (codes "size") size no_members))))

-- runs in order, each as long as can be
abbrev pub IsInitial : Data → List InitialRun → Type 0
IsInitial d runs = IsArrayOf IsRun d runs × AreRuns runs

-- relocations of so many words of code, whose pairs of words lie in the code and apart
abbrev pub IsRelocs : ℕ → Data → List Reloc → Type 0
IsRelocs words d relocs = IsArrayOf IsReloc d relocs × ArePairs words relocs

-- OBJECT: its four members and no others
abbrev pub IsObject : Data → Object → Type 0
IsObject d o =
    (code : Data) × (initial : Data) × (relocs : Data) × (size : Data) × (d ≡ four code initial relocs size)
    × IsCode code o.code × IsInitial initial o.initial × IsRelocs (length o.code) relocs o.relocs × IsWord size o.size

-- ---- what readers and writers answer

-- no value of the kind stands there
abbrev pub Never : {A : Type 0} → (Data → A → Type 0) → Data → Type 0
Never {A = A} Is d = (x : A) → Is d x → ⊥

-- what was found stands there, and nothing does where nothing was found
abbrev pub Reads : {A : Type 0} → (Data → A → Type 0) → Data → Option A → Type 0
Reads Is d (Some x) = Is d x
Reads Is d None = Never Is d

-- what was made is the JSON of x, where x has any
abbrev pub Writes : {A : Type 0} → (Data → A → Type 0) → Data → A → Type 0
Writes Is made x = (d : Data) → Is d x → made ≡ d
