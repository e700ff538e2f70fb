-- The depth-first post-order of names, in which each stands behind those that it imports (Protocol Buffers documentation of FileDescriptorSet
-- in descriptor.proto and of `--include_imports` of protoc: topological order).
use Rattle.std.specs.Prelude.{◌∷◌, ◌++◌, [], ℕ, zero, suc, List, fold, if◌then◌else◌}
use Rattle.pbx_link_definitions.specs.Names.{among}

-- The names, and behind them this one, unless it stands there already: what it imports comes before it, in order, each name in the same way.
-- Imports are followed to this depth.
unfoldable pub with_imports : (List ℕ → List (List ℕ)) → ℕ → List (List ℕ) → List ℕ → List (List ℕ)
with_imports imports zero names name = names
with_imports imports (suc depth) names name =
    if among names name then names else fold (with_imports imports depth) names (imports name) ++ name ∷ []

-- the same of names one after another
abbrev pub post_order : (List ℕ → List (List ℕ)) → ℕ → List (List ℕ) → List (List ℕ) → List (List ℕ)
post_order imports depth names more = fold (with_imports imports depth) names more
