-- The pages that are printed.
use Rattle.std.specs.Prelude.{ℕ, List, [], ◌∷◌, flat_map, codes}

-- the lines of the page for `--help`
abbrev help_lines : List (List ℕ)
help_lines =
    codes "lasline runs lidar points through a pipeline of stages.\n" ∷
    codes "\n" ∷
    codes "  lasline run FILE [OPTIONS]   run the pipeline in FILE\n" ∷
    codes "  lasline plan FILE            print its steps\n" ∷
    codes "  lasline gen N NAME           make a LAS file of N points\n" ∷
    codes "  lasline trial N [OPTIONS]    make one and run a fixed pipeline on it;\n" ∷
    codes "                               this replaces trial.las and trial.txt\n" ∷
    codes "  lasline --help               print this page\n" ∷
    codes "  lasline --version            print the version\n" ∷
    codes "\n" ∷
    codes "Options, each at most once and in any order:\n" ∷
    codes "\n" ∷
    codes "  --chunk N      points that a stage passes on at once: 1 to 64 (default 64)\n" ∷
    codes "  --queue N      items that wait between two stages: 1 to 64 (default 8)\n" ∷
    codes "  --workers N    threads that the stages go on by: 1 to 32 (default 1)\n" ∷
    codes "  --patience N   rounds without work until one stops: 0 to 1000000 (default 1000)\n" ∷
    codes "  --stop first   end a run at the first fault that is seen\n" ∷
    codes "  --whole        run the stages one after the other, on whole lists\n" ∷
    codes "\n" ∷
    codes "For example, a file p.json with the text\n" ∷
    codes "\n" ∷
    codes "  [\"in.las\",\"o.txt\"]\n" ∷
    codes "\n" ∷
    codes "makes of `lasline run p.json` a text file of the points of in.las.\n" ∷
    codes "\n" ∷
    codes "Exit codes:\n" ∷
    codes "\n" ∷
    codes "  0  nothing is wrong\n" ∷
    codes "  1  the words of the command line are wrong\n" ∷
    codes "  2  the pipeline has a fault\n" ∷
    codes "  3  the data have a fault: a LAS file isn't read, an expression divides by zero, a value has no room\n" ∷
    codes "  4  a device failed, or a file to read isn't there\n" ∷
    codes "  5  there was no memory\n" ∷
    codes "\n" ∷
    codes "README.md, docs/PIPELINES.md, docs/FORMATS.md and docs/ERRORS.md of the source tell the rest.\n" ∷
    []

unfoldable pub help_page : List ℕ
help_page = flat_map (λ line. line) help_lines

abbrev pub version_page : List ℕ
version_page = codes "lasline 1\n"
