mod SymbolLists
